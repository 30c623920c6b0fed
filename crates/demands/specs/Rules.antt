-- Demand 2 inside a session: grants, idle stops and downstream bounds as 01 says them. Each rule judges every member on the
-- members as they are when the rule's turn comes; what one member is sent changes nothing for another in that turn.
-- Assumes nothing.
use Rattle.std.specs.Prelude.{ℕ, zero, suc, ◌<◌, ◌≡◌, Bool, List, [], ◌∷◌, ◌++◌, eqb, length}
use Rattle.basis.specs.Choice.{pick, not, both, either}
use Rattle.plans.specs.Nets.{Net, downstream}
use Rattle.states.specs.declared.Delivery.{Delivery}
use Rattle.states.specs.declared.Delivery.TheVariants.{Started, Grant, Idle, Suppress}
use Rattle.states.specs.Sessions.{Member, Session, or_never, view, put, with_joined, with_grant, with_bound, with_idle}
use Rattle.states.specs.Rules.{mark_is, active, horizon, due, revision_of, bound_of, useful}
use Rattle.states.specs.Steps.{Out, every, to_all, at_rest}

-- to each member below n that is due, ascending
unfoldable pub to_each : (ℕ → Bool) → (ℕ → Delivery) → ℕ → List Delivery
to_each due send zero = []
to_each due send (suc k) = to_each due send k ++ pick (due k) (send k ∷ []) []

-- ---- grants
-- Granted if an event is published, neither idle nor stopped, horizon not before the event, and the revision is new or the horizon grows.
abbrev pub grant_due : Net → (ℕ → Member) → ℕ → Bool
grant_due p v j = due (v j).publication (v j) (horizon p v j)

abbrev pub grant_to : Net → (ℕ → Member) → ℕ → Delivery
grant_to p v j = Grant j (revision_of (v j).publication) (horizon p v j)

-- asker first, then its downstream
unfoldable pub grants_sent : Net → ℕ → (ℕ → Member) → List Delivery
grants_sent p i v = pick (grant_due p v i) (grant_to p v i ∷ []) [] ++ to_each (λ j. both (downstream p i j) (grant_due p v j)) (grant_to p v) p.count

unfoldable pub after_grants : Net → ℕ → (ℕ → Member) → ℕ → Member
after_grants p i v j = pick (both (either (eqb j i) (downstream p i j)) (grant_due p v j)) (with_grant (v j) (revision_of (v j).publication) (horizon p v j)) (v j)

-- ---- Then Idle
-- every member, stopped ones too, has no event, confirmed that revision and holds no tag
abbrev pub all_rest : Net → (ℕ → Member) → Bool
all_rest p v = every (λ k. at_rest (v k)) p.count

-- each unstopped one not idle at it
abbrev pub idle_due : Net → (ℕ → Member) → ℕ → Bool
idle_due p v j = both (all_rest p v) (both (not (v j).stopped) (not (mark_is (v j).idle (revision_of (v j).publication))))

-- ascending
unfoldable pub idles_sent : Net → (ℕ → Member) → List Delivery
idles_sent p v = to_each (idle_due p v) (λ j. Idle j (revision_of (v j).publication)) p.count

unfoldable pub after_idles : Net → (ℕ → Member) → ℕ → Member
after_idles p v j = pick (idle_due p v j) (with_idle (v j) (revision_of (v j).publication)) (v j)

-- ---- Then bounds
-- for published members neither idle nor stopped: sent if it drops below the last sent (else NEVER), or rises and an event not after
-- it is published
abbrev pub bound_due : Net → (ℕ → Member) → ℕ → Bool
bound_due p v j = both (active (v j)) (useful (v j).publication (or_never (v j).bound) (bound_of p v j))

-- ascending
unfoldable pub bounds_sent : Net → (ℕ → Member) → List Delivery
bounds_sent p v = to_each (bound_due p v) (λ j. Suppress j (bound_of p v j)) p.count

unfoldable pub after_bounds : Net → (ℕ → Member) → ℕ → Member
after_bounds p v j = pick (bound_due p v j) (with_bound (v j) (bound_of p v j)) (v j)

-- ---- all three, of a request of member i
abbrev pub following : Net → ℕ → (ℕ → Member) → List Delivery
following p i v = grants_sent p i v ++ (idles_sent p (after_grants p i v) ++ bounds_sent p (after_idles p (after_grants p i v)))

abbrev pub after_all : Net → ℕ → (ℕ → Member) → ℕ → Member
after_all p i v = after_bounds p (after_idles p (after_grants p i v))

-- what follows: o is the session with the request's own change, o' the answer
pub record Followed (p : Net) (i : ℕ) (o o' : Out) : Type 0 where
  pub sent : o'.sent ≡ o.sent ++ following p i (view o.session)
  pub members : (j : ℕ) → j < p.count → view o'.session j ≡ after_all p i (view o.session) j
  pub count : length o'.session.members ≡ p.count
  pub identity : o'.session.identity ≡ o.session.identity
  pub cause : o'.session.cause ≡ o.session.cause
  pub code : o'.session.code ≡ o.session.code

-- ---- a Hello that is taken: the member has joined; the last Hello sends Started to all, ascending
pub record Welcomed (p : Net) (s : Session) (i : ℕ) (o : Out) : Type 0 where
  pub session : o.session ≡ put s i (with_joined (view s i))
  pub sent : o.sent ≡ pick (every (λ k. (view o.session k).joined) p.count) (to_all Started p.count) []

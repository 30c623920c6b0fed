-- Demand 1 inside a session: the refusals 20 to 32 as one list, and what a refusal does.
-- Assumes nothing.
use Rattle.std.specs.Prelude.{ℕ, ◌<◌, ◌≤◌, ◌≡◌, Bool, true, false, Option, List, [], ◌∷◌, leb, eqb, length}
use Rattle.basis.specs.Choice.{not, both, either}
use Rattle.tags.specs.declared.Tag.{Tag}
use Rattle.plans.specs.Nets.{Net}
use Rattle.transit.specs.Tags.{full}
use Rattle.states.specs.declared.Request.{Request}
use Rattle.states.specs.declared.Request.TheVariants.{Hello, Publish, Complete, Payload, ConfirmIdle, Stop, Abort}
use Rattle.states.specs.declared.Delivery.TheVariants.{Failed}
use Rattle.states.specs.Sessions.{Member, Session, view}
use Rattle.states.specs.Rules.{is_set}
use Rattle.states.specs.Steps.{code_given, Out, every, to_all, route_at, bad_publication, bad_completion, bad_payload, bad_target, confirms, is_abort, code_of, finished}

-- ---- kinds
-- a test of one kind's words; any other kind fails it
abbrev pub of_hello : (ℕ → Bool) → Request → Bool
of_hello f (Hello d) = f d
of_hello f (Publish r e) = false
of_hello f (Complete t) = false
of_hello f (Payload k t h) = false
of_hello f (ConfirmIdle r) = false
of_hello f Stop = false
of_hello f (Abort c) = false

abbrev pub is_hello : Request → Bool
is_hello q = of_hello (λ d. true) q

abbrev pub of_publish : (ℕ → Option Tag → Bool) → Request → Bool
of_publish f (Hello d) = false
of_publish f (Publish r e) = f r e
of_publish f (Complete t) = false
of_publish f (Payload k t h) = false
of_publish f (ConfirmIdle r) = false
of_publish f Stop = false
of_publish f (Abort c) = false

abbrev pub of_complete : (Tag → Bool) → Request → Bool
of_complete f (Hello d) = false
of_complete f (Publish r e) = false
of_complete f (Complete t) = f t
of_complete f (Payload k t h) = false
of_complete f (ConfirmIdle r) = false
of_complete f Stop = false
of_complete f (Abort c) = false

abbrev pub of_payload : (ℕ → Tag → Bool) → Request → Bool
of_payload f (Hello d) = false
of_payload f (Publish r e) = false
of_payload f (Complete t) = false
of_payload f (Payload k t h) = f k t
of_payload f (ConfirmIdle r) = false
of_payload f Stop = false
of_payload f (Abort c) = false

abbrev pub of_confirm_idle : (ℕ → Bool) → Request → Bool
of_confirm_idle f (Hello d) = false
of_confirm_idle f (Publish r e) = false
of_confirm_idle f (Complete t) = false
of_confirm_idle f (Payload k t h) = false
of_confirm_idle f (ConfirmIdle r) = f r
of_confirm_idle f Stop = false
of_confirm_idle f (Abort c) = false

abbrev pub of_stop : Bool → Request → Bool
of_stop b (Hello d) = false
of_stop b (Publish r e) = false
of_stop b (Complete t) = false
of_stop b (Payload k t h) = false
of_stop b (ConfirmIdle r) = false
of_stop b Stop = b
of_stop b (Abort c) = false

-- ---- the list
-- a number of refusal, and whether it applies
pub data Ground : Type 0 where
  because : ℕ → Bool → Ground

-- the first number of a list that applies, 0 if none does
pub data First : List Ground → ℕ → Type 0 where
  nothing : First [] 0
  here : {n : ℕ} {gs : List Ground} → First (because n true ∷ gs) n
  later : {n k : ℕ} {gs : List Ground} → First gs k → First (because n false ∷ gs) k

-- another hasn't joined
unfoldable pub waits : Net → Session → Bool
waits p s = not (every (λ k. (view s k).joined) p.count)

-- outside the lifecycle: not joined, waiting, or stopped
unfoldable pub outside : Net → Session → ℕ → Bool
outside p s i = either (not (view s i).joined) (either (waits p s) (view s i).stopped)

-- Inside a session, in 01's order: 20 abort, 21 unknown member, 22 Hello with wrong identity or repeated, 23 outside lifecycle,
-- 24 publication, 25 completion, 26 unknown route, 27 another source's route, 28 payload breaks route or grant, 29 destination
-- idle, stopped or completed at or past the tag, 30 in-transit full, 31 idle confirmation, 32 stop without idle.
unfoldable pub grounds : Net → Session → ℕ → Request → List Ground
grounds p s i q =
    let m = view s i in
    let target : ℕ → Member = λ k. view s (route_at p k).target in
    because 20 (is_abort q)
    ∷ because 21 (leb p.count i)
    ∷ because 22 (of_hello (λ d. either m.joined (not (eqb d s.identity))) q)
    ∷ because 23 (both (not (is_hello q)) (outside p s i))
    ∷ because 24 (of_publish (bad_publication m) q)
    ∷ because 25 (of_complete (bad_completion m) q)
    ∷ because 26 (of_payload (λ k t. leb (length p.routes) k) q)
    ∷ because 27 (of_payload (λ k t. not (eqb (route_at p k).source i)) q)
    ∷ because 28 (of_payload (λ k t. bad_payload m (route_at p k).delay t) q)
    ∷ because 29 (of_payload (λ k t. bad_target (target k) t) q)
    ∷ because 30 (of_payload (λ k t. full (p.capacity (route_at p k).target) t (target k).transit) q)
    ∷ because 31 (of_confirm_idle (λ r. not (confirms m.publication r)) q)
    ∷ because 32 (of_stop (not (is_set m.idle)) q) ∷ []

-- ---- what a step answers
-- a refusal ends the session, sets the cause, sends Failed with it to every member, ascending, and leaves every record and tag
pub record Refused (p : Net) (s : Session) (q : Request) (n : ℕ) (o : Out) : Type 0 where
  pub number : (20 ≤ n) × (n ≤ 32)
  pub ends : finished p o.session ≡ true
  pub cause : o.session.cause ≡ n
  pub code : o.session.code ≡ code_of q
  pub members : o.session.members ≡ s.members
  pub identity : o.session.identity ≡ s.identity
  pub sent : o.sent ≡ to_all (λ k. Failed k n (code_of q)) p.count

-- An ended one answers any request with one Failed to the member word given, known or not, and stays as it is.
pub record Over (s : Session) (i : ℕ) (o : Out) : Type 0 where
  pub session : o.session ≡ s
  pub sent : o.sent ≡ Failed i s.cause (code_given s) ∷ []

-- the owner's abort: Failed to all, with cause 20 and its code unless a cause stands; every record and tag is left
pub record Abandoned (p : Net) (s : Session) (code : ℕ) (o : Out) : Type 0 where
  pub cause : (s.cause ≡ 0 → (o.session.cause ≡ 20) × (o.session.code ≡ code)) × (0 < s.cause → (o.session.cause ≡ s.cause) × (o.session.code ≡ s.code))
  pub members : o.session.members ≡ s.members
  pub identity : o.session.identity ≡ s.identity
  pub sent : o.sent ≡ to_all (λ k. Failed k o.session.cause (code_given o.session)) p.count

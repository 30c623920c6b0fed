-- One step of a session, in the paper's order.
-- Assumes nothing.
use Rattle.std.specs.Prelude.{ℕ, zero, suc, Bool, true, false, List, [], ◌∷◌, ◌++◌, ltb, leb, eqb, get_or, length, Option, Some, None}
use Rattle.basis.specs.Choice.{pick, not, both, either}
use Rattle.tags.specs.declared.Tag.{Tag}
use Rattle.tags.specs.declared.Tag.TheVariants.{Never, Finite, Forever}
use Rattle.tags.specs.Tags.{tag_le, tag_before, same_tag, delayed}
use Rattle.plans.specs.Nets.{Net, Route, no_route, downstream}
use Rattle.transit.specs.Tags.{insert, after, full}
use Rattle.states.specs.declared.Publication.{Publication}
use Rattle.states.specs.declared.Request.{Request}
use Rattle.states.specs.declared.Request.TheVariants.{Hello, Publish, Complete, Payload, ConfirmIdle, Stop, Abort}
use Rattle.states.specs.declared.Delivery.{Delivery}
use Rattle.states.specs.declared.Delivery.TheVariants.{Started, Grant, Carried, Idle, Stopped, Suppress, Failed}
use Rattle.states.specs.Sessions.{Member, Session, or_never, view, put, with_cause, with_joined, with_publication, with_grant, with_bound, with_completed, with_transit, with_asked, with_idle, with_stopped}
use Rattle.states.specs.Rules.{is_set, mark_is, active, horizon, due, revision_of, bound_of, useful}

-- a session so far, and what it has sent in this step
pub record Out : Type 0 where
  pub session : Session
  pub sent : List Delivery

-- one member replaced, and something sent
abbrev pub tell : Out → ℕ → Member → List Delivery → Out
tell o i m ds = record { session = put o.session i m; sent = o.sent ++ ds }

abbrev pub start : Session → Out
start s = record { session = s; sent = [] }

-- f at 0 .. k - 1, ascending
unfoldable pub each : (Out → ℕ → Out) → ℕ → Out → Out
each f zero o = o
each f (suc k) o = f (each f k o) k

-- the same delivery to 0 .. k - 1, ascending
unfoldable pub to_all : (ℕ → Delivery) → ℕ → List Delivery
to_all d zero = []
to_all d (suc k) = to_all d k ++ (d k ∷ [])

unfoldable pub every : (ℕ → Bool) → ℕ → Bool
every f zero = true
every f (suc k) = both (every f k) (f k)

-- ---- refusals: a number, 0 meaning go on
abbrev pub when : Bool → ℕ → ℕ
when b r = pick b r 0

abbrev pub or_else : ℕ → ℕ → ℕ
or_else zero r = r
or_else (suc q) r = suc q

unfoldable pub any : List Bool → Bool
any [] = false
any (b ∷ bs) = either b (any bs)

pub data Phase : Type 0 where
  absent waiting running resting halted : Phase

-- The phase is the first that fits: not joined; waiting (another hasn't joined); stopped; idle; running.
unfoldable pub phase_of : Net → Session → ℕ → Phase
phase_of p s i =
    pick (not (view s i).joined) absent
    (pick (not (every (λ k. (view s k).joined) p.count)) waiting
    (pick (view s i).stopped halted
    (pick (is_set (view s i).idle) resting running)))

abbrev pub hello_in : Phase → ℕ
hello_in absent = 0
hello_in waiting = 22
hello_in running = 22
hello_in resting = 22
hello_in halted = 22

abbrev pub work_in : Phase → ℕ
work_in absent = 23
work_in waiting = 23
work_in running = 0
work_in resting = 0
work_in halted = 23

abbrev pub stop_in : Phase → ℕ
stop_in absent = 23
stop_in waiting = 23
stop_in running = 32
stop_in resting = 0
stop_in halted = 23

unfoldable pub lifecycle : Request → Phase → ℕ
lifecycle (Hello i) ph = hello_in ph
lifecycle (Publish r e) ph = work_in ph
lifecycle (Complete t) ph = work_in ph
lifecycle (Payload k t h) ph = work_in ph
lifecycle (ConfirmIdle r) ph = work_in ph
lifecycle Stop ph = stop_in ph
lifecycle (Abort c) ph = 20

abbrev pub finite : Tag → Bool
finite Never = false
finite (Finite o m) = true
finite Forever = false

abbrev pub same_next : Option Tag → Option Tag → Bool
same_next None None = true
same_next None (Some y) = false
same_next (Some x) None = false
same_next (Some x) (Some y) = same_tag x y

abbrev pub is_event : Option Tag → Bool
is_event None = false
is_event (Some t) = true

-- a test of the event, if there is one
abbrev pub of_event : (Tag → Bool) → Option Tag → Bool
of_event f None = false
of_event f (Some t) = f t

abbrev pub older : Option Publication → ℕ → Bool
older None r = false
older (Some p) r = ltb r p.revision

abbrev pub otherwise : Option Publication → ℕ → Option Tag → Bool
otherwise None r e = false
otherwise (Some p) r e = both (eqb p.revision r) (not (same_next p.next e))

abbrev pub same_publication : Option Publication → ℕ → Option Tag → Bool
same_publication None r e = false
same_publication (Some p) r e = both (eqb p.revision r) (same_next p.next e)

-- Publish, 24: event not finite; revision older; same revision, other event; event not after completed; event while idle.
unfoldable pub bad_publication : Member → ℕ → Option Tag → Bool
bad_publication m r e = any (
    of_event (λ t. not (finite t)) e
    ∷ older m.publication r
    ∷ otherwise m.publication r e
    ∷ of_event (λ t. tag_le t (or_never m.completed)) e
    ∷ both (is_event e) (is_set m.idle) ∷ [])

abbrev pub is_absent : Option Tag → Bool
is_absent None = true
is_absent (Some t) = false

-- Complete, 25: not finite, nothing granted, above granted, below completed.
unfoldable pub bad_completion : Member → Tag → Bool
bad_completion m t = any (not (finite t) ∷ is_absent m.granted ∷ tag_before (or_never m.granted) t ∷ tag_before t (or_never m.completed) ∷ [])

-- completed (or ZERO)
abbrev pub or_zero : Option Tag → Tag
or_zero None = Finite 0 0
or_zero (Some t) = t

-- a test of the tag, if there is one
abbrev pub of_limit : (Tag → Bool) → Option Tag → Bool
of_limit f None = false
of_limit f (Some t) = f t

abbrev pub on_instant : Tag → Bool
on_instant Never = false
on_instant (Finite o m) = eqb m 0
on_instant Forever = false

-- 28: not finite; source idle; below completed (or ZERO) delayed; zero delay and equal to completed; positive delay and
-- microstep not 0; completed not below granted; no grant, or after granted delayed
unfoldable pub bad_payload : Member → ℕ → Tag → Bool
bad_payload m d t = any (
    not (finite t)
    ∷ is_set m.idle
    ∷ tag_before t (delayed (or_zero m.completed) d)
    ∷ both (eqb d 0) (of_limit (same_tag t) m.completed)
    ∷ both (not (eqb d 0)) (not (on_instant t))
    ∷ not (tag_before (or_never m.completed) (or_never m.granted))
    ∷ is_absent m.granted
    ∷ tag_before (delayed (or_never m.granted) d) t ∷ [])

-- 29: destination idle, stopped or completed at or past the tag
unfoldable pub bad_target : Member → Tag → Bool
bad_target m t = any (is_set m.idle ∷ m.stopped ∷ tag_le t (or_never m.completed) ∷ [])

abbrev pub route_at : Net → ℕ → Route
route_at p k = get_or p.routes k no_route

unfoldable pub payload_refusal : Net → Session → ℕ → ℕ → Tag → ℕ
payload_refusal p s i k t =
    or_else (when (leb (length p.routes) k) 26)
    (or_else (when (not (eqb (route_at p k).source i)) 27)
    (or_else (when (bad_payload (view s i) (route_at p k).delay t) 28)
    (or_else (when (bad_target (view s (route_at p k).target) t) 29)
    (when (full (p.capacity (route_at p k).target) t (view s (route_at p k).target).transit) 30))))

-- 31: publication isn't this revision with no event
abbrev pub confirms : Option Publication → ℕ → Bool
confirms None r = false
confirms (Some p) r = both (eqb p.revision r) (not (is_event p.next))

unfoldable pub kind_refusal : Net → Session → ℕ → Request → ℕ
kind_refusal p s i (Hello d) = when (not (eqb d s.identity)) 22
kind_refusal p s i (Publish r e) = when (bad_publication (view s i) r e) 24
kind_refusal p s i (Complete t) = when (bad_completion (view s i) t) 25
kind_refusal p s i (Payload k t h) = payload_refusal p s i k t
kind_refusal p s i (ConfirmIdle r) = when (not (confirms (view s i).publication r)) 31
kind_refusal p s i Stop = 0
kind_refusal p s i (Abort c) = 0

abbrev pub is_abort : Request → Bool
is_abort (Hello d) = false
is_abort (Publish r e) = false
is_abort (Complete t) = false
is_abort (Payload k t h) = false
is_abort (ConfirmIdle r) = false
is_abort Stop = false
is_abort (Abort c) = true

abbrev pub code_of : Request → ℕ
code_of (Hello d) = 0
code_of (Publish r e) = 0
code_of (Complete t) = 0
code_of (Payload k t h) = 0
code_of (ConfirmIdle r) = 0
code_of Stop = 0
code_of (Abort c) = c

-- Otherwise Abort gives 20; then an unknown member 21; then the phase table; then the kind's own.
unfoldable pub refusal_of : Net → Session → ℕ → Request → ℕ
refusal_of p s i q =
    or_else (when (is_abort q) 20)
    (or_else (when (leb p.count i) 21)
    (or_else (lifecycle q (phase_of p s i)) (kind_refusal p s i q)))

-- ---- what each kind does
-- A changed publication clears the idle request.
unfoldable pub publishing : Member → ℕ → Option Tag → Member
publishing m r e = with_publication m (Some (record { revision = r; next = e })) (pick (same_publication m.publication r e) m.asked None)

unfoldable pub effect : Net → Session → ℕ → Request → Out
effect p s i (Hello d) = tell (start s) i (with_joined (view s i)) []
effect p s i (Publish r e) = tell (start s) i (publishing (view s i) r e) []
effect p s i (Complete t) = tell (start s) i (with_completed (view s i) t (after t (view s i).transit)) []
effect p s i (Payload k t h) =
    let j = (route_at p k).target in tell (start s) j (with_transit (view s j) (insert t (view s j).transit)) (Carried j k t h ∷ [])
effect p s i (ConfirmIdle r) = tell (start s) i (with_asked (view s i) r) []
effect p s i Stop = tell (start s) i (with_stopped (view s i)) (Stopped i ∷ [])
effect p s i (Abort c) = start s

-- ---- a pass over members: whether one is due, what its record becomes, what is sent to it
pub record Pass : Type 0 where
  pub due : (ℕ → Member) → ℕ → Bool
  pub becomes : (ℕ → Member) → ℕ → Member
  pub sends : (ℕ → Member) → ℕ → Delivery

unfoldable pub visit : Pass → Out → ℕ → Out
visit a o j =
    let v = view o.session in
    pick (a.due v j) (tell o j (a.becomes v j) (a.sends v j ∷ [])) o

-- ---- Then grants, asker first, then its downstream.
abbrev pub granting : Net → Pass
granting p =
    record {
      due = λ v j. due (v j).publication (v j) (horizon p v j);
      becomes = λ v j. with_grant (v j) (revision_of (v j).publication) (horizon p v j);
      sends = λ v j. Grant j (revision_of (v j).publication) (horizon p v j);
    }

unfoldable pub grant_below : Net → ℕ → Out → ℕ → Out
grant_below p i o j = pick (downstream p i j) (visit (granting p) o j) o

unfoldable pub grants : Net → ℕ → Out → Out
grants p i o = each (grant_below p i) p.count (visit (granting p) o i)

-- ---- Then Idle: if every member has no event, confirmed that revision and holds no tag, each unstopped one not idle at it.
abbrev pub is_empty : List Tag → Bool
is_empty [] = true
is_empty (t ∷ ts) = false

abbrev pub confirmed : Option Publication → Option ℕ → Bool
confirmed None q = false
confirmed (Some p) q = both (not (is_event p.next)) (mark_is q p.revision)

unfoldable pub at_rest : Member → Bool
at_rest m = both (confirmed m.publication m.asked) (is_empty m.transit)

abbrev pub idling : Pass
idling =
    record {
      due = λ v j. both (not (v j).stopped) (not (mark_is (v j).idle (revision_of (v j).publication)));
      becomes = λ v j. with_idle (v j) (revision_of (v j).publication);
      sends = λ v j. Idle j (revision_of (v j).publication);
    }

unfoldable pub idles : Net → Out → Out
idles p o = pick (every (λ k. at_rest (view o.session k)) p.count) (each (visit idling) p.count o) o

-- ---- Then bounds, ascending, for published members neither idle nor stopped.
abbrev pub bounding : Net → Pass
bounding p =
    record {
      due = λ v j. both (active (v j)) (useful (v j).publication (or_never (v j).bound) (bound_of p v j));
      becomes = λ v j. with_bound (v j) (bound_of p v j);
      sends = λ v j. Suppress j (bound_of p v j);
    }

unfoldable pub bounds : Net → Out → Out
bounds p o = each (visit (bounding p)) p.count o

-- ---- the step
-- The last Hello sends Started to all.
unfoldable pub welcome : Net → Out → Out
welcome p o = record { session = o.session; sent = o.sent ++ pick (every (λ k. (view o.session k).joined) p.count) (to_all Started p.count) [] }

-- what follows every kind but Hello
abbrev pub follow : Net → ℕ → Out → Out
follow p i o = bounds p (idles p (grants p i o))

unfoldable pub accepted : Net → Session → ℕ → Request → Out
accepted p s i (Hello d) = welcome p (effect p s i (Hello d))
accepted p s i (Publish r e) = follow p i (effect p s i (Publish r e))
accepted p s i (Complete t) = follow p i (effect p s i (Complete t))
accepted p s i (Payload k t h) = follow p i (effect p s i (Payload k t h))
accepted p s i (ConfirmIdle r) = follow p i (effect p s i (ConfirmIdle r))
accepted p s i Stop = follow p i (effect p s i Stop)
accepted p s i (Abort c) = start s

-- a refusal sends Failed to all, and ends the session
unfoldable pub answered : Net → Session → ℕ → Request → ℕ → Out
answered p s i q zero = accepted p s i q
answered p s i q (suc r) = record { session = with_cause s (suc r) (code_of q); sent = to_all (λ k. Failed k (suc r) (code_of q)) p.count }

-- what Failed says of an ended session's code: it is given only with cause 20
abbrev pub code_given : Session → ℕ
code_given s = pick (eqb s.cause 20) s.code 0

-- An ended one answers any request with one Failed to the member word given.
unfoldable pub step : Net → Session → ℕ → Request → Out
step p s i q = pick (ltb 0 s.cause) (record { session = s; sent = Failed i s.cause (code_given s) ∷ [] }) (answered p s i q (refusal_of p s i q))

-- the owner's abort: cause 20 and its code unless a cause stands, Failed to all
unfoldable pub ended : Session → ℕ → Session
ended s code = pick (ltb 0 s.cause) s (with_cause s 20 code)

unfoldable pub abandon : Net → Session → ℕ → Out
abandon p s code = record { session = ended s code; sent = to_all (λ k. Failed k (ended s code).cause (code_given (ended s code))) p.count }

-- Finished: ended, or every member stopped
unfoldable pub finished : Net → Session → Bool
finished p s = either (ltb 0 s.cause) (every (λ k. (view s k).stopped) p.count)

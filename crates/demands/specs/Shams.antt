-- Builds of a session's step that are not right, and what the demands ask of a build.
-- Assumes nothing.
use Rattle.std.specs.Prelude.{ℕ, ◌<◌, ◌≡◌, Bool, true, false, Option, None, Some, eqb}
use Rattle.basis.specs.Choice.{pick, not, both}
use Rattle.plans.specs.Nets.{Net, Lawful}
use Rattle.states.specs.declared.Publication.{Publication}
use Rattle.states.specs.declared.Request.{Request}
use Rattle.states.specs.declared.Delivery.TheVariants.{Failed}
use Rattle.states.specs.Sessions.{Session, fresh, view, with_cause}
use Rattle.states.specs.Steps.{Out, to_all, refusal_of, effect, grants, idles, bounds, step}
use Rattle.states.specs.Formed.{FitsRequest}
use Rattle.demands.specs.Histories.{Answered, Moves}
use Rattle.demands.specs.Refusals.{is_hello, of_publish}

-- what answers a request
abbrev pub Build : Type 0
Build = Net → Session → ℕ → Request → Out

-- Demand 2 of a build: each request is answered as 01 says.
abbrev pub Second : Build → Type 0
Second f = (p : Net) (s : Session) (i : ℕ) (q : Request) → f p s i q ≡ step p s i q

-- its histories
pub data ReachedBy (f : Build) (p : Net) : Session → Type 0 where
  opened : (identity : ℕ) → ReachedBy f p (fresh p.count identity)
  asked : {s : Session} → ReachedBy f p s → (i : ℕ) (q : Request) → FitsRequest q → ReachedBy f p (f p s i q).session

-- Demand 3 of a build
abbrev pub Third : Build → Type 0
Third f = (p : Net) → Lawful p → (s : Session) → ReachedBy f p s → ((j : ℕ) → j < p.count → Answered p (view s) j) × Moves p (view s)

-- ---- the shams
-- refusing always
unfoldable pub refusing : ℕ → Build
refusing n p s i q = record { session = with_cause s n 0; sent = to_all (λ k. Failed k n 0) p.count }

-- a fixed answer
abbrev pub fixed : Out → Build
fixed o p s i q = o

-- one that leaves the state alone
abbrev pub Leaves : Build → Type 0
Leaves f = (p : Net) (s : Session) (i : ℕ) (q : Request) → (f p s i q).session ≡ s

abbrev pub is_unpublished : Option Publication → Bool
is_unpublished None = true
is_unpublished (Some p) = false

-- one that grants on first publication only
unfoldable pub grants_once : Build
grants_once p s i q =
    let o = effect p s i q in
    let first = of_publish (λ r e. is_unpublished (view s i).publication) q in
    pick (both (eqb s.cause 0) (both (eqb (refusal_of p s i q) 0) (not (is_hello q)))) (bounds p (idles p (pick first (grants p i o) o))) (step p s i q)

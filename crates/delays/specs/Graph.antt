-- Delays between members, as numbers: a delay below 2^64 is itself, `far` stands for every sum past it, and `none` for no path at all.
-- Assumes nothing.
use Rattle.std.specs.Prelude.{◌≡◌, List, ℕ, zero, suc, ◌+◌, ◌<◌, ◌^◌, min, max, leb, ltb, eqb, get_or}
use Rattle.basis.specs.Choice.{pick}
use Rattle.plans.specs.declared.Plan.{Plan}
use Rattle.delays.specs.declared.Reach.{Reach}
use Rattle.delays.specs.declared.Reach.TheVariants.{At, TooFar, None}

-- "a sum past 2^64-1 is one value, too far"
abbrev pub far : ℕ
far = 2 ^ 64

abbrev pub none : ℕ
none = 2 ^ 65

-- one leg after another: the sum, `far` past the largest number, and `none` where a leg is
unfoldable pub plus : ℕ → ℕ → ℕ
plus a b = max (min (a + b) far) (max a b)

-- an edge list: the edges' sources, targets and delays, of which the first m count
pub record Edge (src dst delay : List ℕ) (m s t d : ℕ) : Type 0 where
  pub at : ℕ
  pub inside : at < m
  pub from : get_or src at 0 ≡ s
  pub to : get_or dst at 0 ≡ t
  pub cost : get_or delay at 0 ≡ d

-- a walk of one or more edges from s to t, and the sum of its delays
pub data Walk (E : ℕ → ℕ → ℕ → Type 0) : ℕ → ℕ → ℕ → Type 0 where
  last : {s t d : ℕ} → E s t d → Walk E s t d
  then : {s m t d e : ℕ} → E s m d → Walk E m t e → Walk E s t (d + e)

-- the least over walks that pass only through members below k, k included next
unfoldable pub next : (ℕ → ℕ → ℕ) → ℕ → ℕ → ℕ → ℕ
next g k s t = min (g s t) (plus (g s k) (g k t))

-- the least over walks that pass only through members below k
unfoldable pub via : (ℕ → ℕ → ℕ) → ℕ → ℕ → ℕ → ℕ
via g zero s t = g s t
via g (suc k) s t = next (via g k) k s t

-- what edge i says of the pair
unfoldable pub cost : List ℕ → List ℕ → List ℕ → ℕ → ℕ → ℕ → ℕ
cost src dst delay i s t = pick (eqb (get_or src i 0) s) (pick (eqb (get_or dst i 0) t) (get_or delay i 0) none) none

-- the least delay of the first m edges that go from s to t
unfoldable pub direct : List ℕ → List ℕ → List ℕ → ℕ → ℕ → ℕ → ℕ
direct src dst delay zero s t = none
direct src dst delay (suc i) s t = min (direct src dst delay i s t) (cost src dst delay i s t)

-- the view of such a number
unfoldable pub reach_of : ℕ → Reach
reach_of v = pick (ltb v far) (At v) (pick (leb v far) TooFar None)

unfoldable pub min_delay : List ℕ → List ℕ → List ℕ → ℕ → ℕ → ℕ → ℕ → Reach
min_delay src dst delay m n s t = reach_of (via (direct src dst delay m) n s t)

-- an edge of the plan
abbrev pub EdgeOf : Plan → ℕ → ℕ → ℕ → Type 0
EdgeOf p = Edge p.sources p.targets p.delays p.edges

-- "Direct delay of a pair: least delay over its edges"
abbrev pub direct_of : Plan → ℕ → ℕ → ℕ
direct_of p = direct p.sources p.targets p.delays p.edges

-- "Minimum delay: least sum over all paths of one or more edges, so a member on a cycle has one to itself"
abbrev pub minimum_of : Plan → ℕ → ℕ → ℕ
minimum_of p = via (direct_of p) p.members

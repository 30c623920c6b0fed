-- A closed walk of edges without delay, by their positions, and the check of one.
-- Assumes nothing.
use Rattle.std.specs.Prelude.{Bool, true, ◌≡◌, List, ℕ, zero, suc, ◌+◌, ◌-◌, ◌<◌, ◌≤◌, ltb, leb, eqb, length, get_or, take}
use Rattle.basis.specs.Choice.{pick, both}
use Rattle.plans.specs.declared.Plan.{Plan}
use Rattle.plans.specs.Reading.{reading_of}
use Rattle.routes.specs.declared.Walk.{Walk}

-- "A witness lists edge positions of one such closed walk": 1 to 32 edges of the plan, each without delay, each leading
-- to where the next leaves, the last to where the first leaves
pub record ClosedZero (p : Plan) (ws : List ℕ) : Type 0 where
  pub some : 1 ≤ length ws
  pub few : length ws ≤ 32
  pub inside : (i : ℕ) → i < length ws → get_or ws i 0 < p.edges
  pub still : (i : ℕ) → i < length ws → get_or p.delays (get_or ws i 0) 0 ≡ 0
  pub joined : (i : ℕ) → i + 1 < length ws → get_or p.targets (get_or ws i 0) 0 ≡ get_or p.sources (get_or ws (i + 1) 0) 0
  pub closed : get_or p.targets (get_or ws (length ws - 1) 0) 0 ≡ get_or p.sources (get_or ws 0 0) 0

-- every place below n passes
unfoldable pub every : (ℕ → Bool) → ℕ → Bool
every test zero = true
every test (suc k) = both (every test k) (test k)

-- the place after i of n, the first after the last
unfoldable pub after : ℕ → ℕ → ℕ
after n i = pick (eqb (i + 1) n) 0 (i + 1)

-- of m edges, x has no delay and leads to where y leaves
unfoldable pub goes_on : List ℕ → List ℕ → List ℕ → ℕ → ℕ → ℕ → Bool
goes_on src dst delay m x y =
    both (ltb x m) (both (ltb y m) (both (eqb (get_or delay x 0) 0) (eqb (get_or dst x 0) (get_or src y 0))))

-- every one of n positions goes on to the one after it
unfoldable pub closing : List ℕ → List ℕ → List ℕ → ℕ → ℕ → List ℕ → Bool
closing src dst delay m n ws = every (λ (i : ℕ). goes_on src dst delay m (get_or ws i 0) (get_or ws (after n i) 0)) n

-- the test for `ClosedZero`
unfoldable pub closes_zero : Plan → List ℕ → Bool
closes_zero p ws =
    both (ltb 0 (length ws))
    (both (leb (length ws) 32)
    (closing p.sources p.targets p.delays p.edges (length ws) ws))

-- the positions that a walk by value lists
abbrev pub listed : Walk → List ℕ
listed w = take w.count w.edges

-- "a separate check accepts exactly these, none under 1 to 7"; a count above 32 lists nothing
unfoldable pub accepts : List ℕ → Walk → Bool
accepts b w =
    both (eqb (reading_of b).refusal.number 0)
    (both (leb w.count 32)
    (closes_zero (reading_of b).plan (listed w)))

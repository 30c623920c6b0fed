-- The first place that passes a test, and the places that pass it as bits.
-- Assumes nothing.
use Rattle.std.specs.Prelude.{Bool, ◌≡◌, ℕ, zero, suc, ◌+◌, ◌^◌, ◌<◌, Option, MatchOption}
use Rattle.basis.specs.Choice.{pick}

-- the first of the k places from i on that passes, or the place after them
unfoldable pub first : (ℕ → Bool) → ℕ → ℕ → ℕ
first test i zero = i
first test i (suc k) = pick (test i) i (first test (i + 1) k)

-- r is the place i where that is below n, and none where it is n
abbrev pub Finds : ℕ → ℕ → Option ℕ → Type 0
Finds n i r = MatchOption r (i ≡ n) (λ k. (k < n) × (i ≡ k))

-- bit j is set where place j passes, for the first n places
unfoldable pub mask_of : (ℕ → Bool) → ℕ → ℕ
mask_of test zero = 0
mask_of test (suc j) = mask_of test j + pick (test j) (2 ^ j) 0

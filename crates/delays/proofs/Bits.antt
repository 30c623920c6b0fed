-- The bits of a mask.
-- Assumes nothing.
use mathlib.Core.Bool.{Bool, true, false}
use mathlib.Core.Path.{◌≡◌, refl, ap, ◌∙◌}
use mathlib.Core.Logic.{⊎_elim}
use Prim.Native.Nat.{ℕ, zero, suc, ◌+◌, ◌-◌, ◌*◌, ◌/◌, ◌%◌, ◌<◌, ◌≤◌, ◌^◌}
use native.Mathlib.Omega.{arith}
use native.Mathlib.Nat.{eq-or-lt_of_le, le_of_suc-le-suc, pow-suc, pow-le-pow_right, div-eq_of_lt, add-div_right, add-mul-div_right}
use lib.Pow.{pow_pos, pow-add}
use Rattle.basis.specs.Choice.{pick}
use Rattle.delays.specs.Search.{mask_of}
use Rattle.delays.proofs.Search.{mask-small}

-- bit j of a mask
unfoldable pub bit_of : ℕ → ℕ → ℕ
bit_of m j = m / 2 ^ j % 2

top : (b : Bool) (m k : ℕ) → m < 2 ^ k → bit_of (m + pick b (2 ^ k) 0) k ≡ pick b 1 0
unfolding bit_of
top true m k h = rw (add-div_right m (pow_pos k), div-eq_of_lt h) refl
top false m k h = let e : m + 0 ≡ m = omega arith in rw (e, div-eq_of_lt h) refl

even : (q c : ℕ) → (q + c * 2) % 2 ≡ q % 2
even q c = omega arith

split : (j k : ℕ) → j < k → 2 ^ k ≡ 2 ^ (k - suc j) * 2 * 2 ^ j
split j k h =
    let e : k ≡ suc (k - suc j) + j = omega arith in
    ap (λ (x : ℕ). 2 ^ x) e ∙ pow-add 2 (suc (k - suc j)) j ∙ ap (λ (x : ℕ). x * 2 ^ j) (pow-suc 2 (k - suc j))

under : (b : Bool) (m k j : ℕ) → j < k → bit_of (m + pick b (2 ^ k) 0) j ≡ bit_of m j
unfolding bit_of
under true m k j h =
    rw (split j k h, add-mul-div_right m (2 ^ (k - suc j) * 2) (pow_pos j)) (even (m / 2 ^ j) (2 ^ (k - suc j)))
under false m k j h = let e : m + 0 ≡ m = omega arith in rw e refl

-- bit j is set exactly where place j passes
pub mask-bit : (test : ℕ → Bool) (n j : ℕ) → j < n → bit_of (mask_of test n) j ≡ pick (test j) 1 0
unfolding mask_of
mask-bit test zero j h = absurd (omega arith)
mask-bit test (suc k) j h =
    ⊎_elim (λ e. rw e (top (test k) (mask_of test k) k (mask-small test k)))
    (λ l. under (test k) (mask_of test k) k j l ∙ mask-bit test k j l)
    (eq-or-lt_of_le (le_of_suc-le-suc h))

-- and no bit past the places
pub mask-past : (test : ℕ → Bool) (n j : ℕ) → n ≤ j → bit_of (mask_of test n) j ≡ 0
unfolding bit_of
mask-past test n j h =
    let l : 2 ^ n ≤ 2 ^ j = pow-le-pow_right {n = 2} (omega arith) {i = n} {j = j} h in
    let m : mask_of test n < 2 ^ j = omega (arith, mask-small test n) in
    rw (div-eq_of_lt m) refl

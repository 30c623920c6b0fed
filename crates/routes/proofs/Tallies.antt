-- How many places pass a test.
-- Assumes nothing.
use mathlib.Core.Bool.{Bool, true, false}
use mathlib.Core.Path.{◌≡◌, refl}
use mathlib.Core.Logic.{⊎_elim}
use Prim.Native.Nat.{ℕ, zero, suc, ◌+◌, ◌<◌, ◌≤◌}
use native.Mathlib.Omega.{arith}
use native.Mathlib.Nat.{eq-or-lt_of_le, le_of_suc-le-suc}
use Rattle.basis.specs.Choice.{pick}

unfoldable pub tally : (ℕ → Bool) → ℕ → ℕ
tally test zero = 0
tally test (suc k) = tally test k + pick (test k) 1 0

one : (b : Bool) → pick b 1 0 ≤ 1
one true = omega arith
one false = omega arith

pub tally-most : (f : ℕ → Bool) (n : ℕ) → tally f n ≤ n
unfolding tally
tally-most f zero = omega arith
tally-most f (suc n) = omega (arith, tally-most f n, one (f n))

pub tally-below : (f : ℕ → Bool) (n j : ℕ) → j < n → f j ≡ false → tally f n < n
unfolding tally
tally-below f zero j h e = absurd (omega arith)
tally-below f (suc n) j h e =
    ⊎_elim (λ q. rw (rw q at e) (omega (arith, tally-most f n))) (λ l. omega (arith, tally-below f n j l e, one (f n))) (eq-or-lt_of_le (le_of_suc-le-suc h))

under : (a b : Bool) → (a ≡ true → b ≡ true) → pick a 1 0 ≤ pick b 1 0
under true b f = rw (f refl) (omega arith)
under false b f = omega arith

module _ (f g : ℕ → Bool) (more : (i : ℕ) → f i ≡ true → g i ≡ true) where
  pub tally-more : (n : ℕ) → tally f n ≤ tally g n
  unfolding tally
  tally-more zero = omega arith
  tally-more (suc n) = omega (arith, tally-more n, under (f n) (g n) (more n))

  -- one place more: a greater number
  pub tally-strict : (n j : ℕ) → j < n → f j ≡ false → g j ≡ true → tally f n < tally g n
  unfolding tally
  tally-strict zero j h a b = absurd (omega arith)
  tally-strict (suc n) j h a b =
      ⊎_elim (λ q. rw (rw q at a, rw q at b) (omega (arith, tally-more n)))
      (λ l. omega (arith, tally-strict n j l a b, under (f n) (g n) (more n)))
      (eq-or-lt_of_le (le_of_suc-le-suc h))

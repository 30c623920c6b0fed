-- Laws of the first place that passes, and of the mask.
-- Assumes nothing.
use mathlib.Core.Bool.{Bool, true, false}
use mathlib.Core.Path.{◌≡◌, refl, sym, ◌∙◌}
use mathlib.Core.Logic.{◌⊎◌, ⊎_elim, inl, inr}
use Prim.Native.Nat.{ℕ, zero, suc, ◌+◌, ◌-◌, ◌*◌, ◌%◌, ◌<◌, ◌≤◌, ◌^◌}
use native.Mathlib.Omega.{arith}
use native.Mathlib.Numerals.{add-one}
use native.Mathlib.Nat.{eq-or-lt_of_le, pow-succ', pow-le-pow_right}
use Rattle.std.proofs.Common.{Option, Some, None, IsSome, MatchOption}
use Rattle.std.proofs.lemmas.Bool.{true≢false}
use Rattle.delays.proofs.Walks.{le-or-lt}
use Rattle.basis.specs.Choice.{pick}
use Rattle.delays.specs.Search.{first, Finds, mask_of}

module _ (test : ℕ → Bool) where
  pub first-start : (n : ℕ) → first test 0 (n - 0) ≡ first test 0 n
  first-start n = let e : n - 0 ≡ n = omega arith in rw e refl

  -- one step of the search, and its end
  pub first-here : (i n : ℕ) → i < n → test i ≡ true → first test i (n - i) ≡ i
  unfolding first
  first-here i n h e = let s : n - i ≡ suc (n - (i + 1)) = omega arith in rw (s, e) refl

  pub first_on : (i n : ℕ) → i < n → test i ≡ false → first test i (n - i) ≡ first test (i + 1) (n - (i + 1))
  unfolding first
  first_on i n h e = let s : n - i ≡ suc (n - (i + 1)) = omega arith in rw (s, e) refl

  pub first-end : (i n : ℕ) → n ≤ i → first test i (n - i) ≡ i
  unfolding first
  first-end i n h = let s : n - i ≡ zero = omega arith in rw s refl

  data Passes (i : ℕ) : Type 0 where
    does : test i ≡ true → Passes i
    fails : test i ≡ false → Passes i

  passes : (i : ℕ) → Passes i
  passes i = go (test i) refl
    where
      go : (b : Bool) → test i ≡ b → Passes i
      go true e = does e
      go false e = fails e

  -- the place that is found passes, and none before it does
  pub first-within : (i k : ℕ) → (i ≤ first test i k) × (first test i k ≤ i + k)
  unfolding first
  first-within i zero = (omega arith, omega arith)
  first-within i (suc k) = go (passes i) (first-within (i + 1) k)
    where
      go : Passes i → (i + 1 ≤ first test (i + 1) k) × (first test (i + 1) k ≤ i + 1 + k)
          → (i ≤ pick (test i) i (first test (i + 1) k)) × (pick (test i) i (first test (i + 1) k) ≤ i + suc k)
      go (does e) r = rw e (omega arith, omega arith)
      go (fails e) r = rw e (omega arith, omega arith)

  pub first-hit : (i k : ℕ) → first test i k < i + k → test (first test i k) ≡ true
  unfolding first
  first-hit i zero h = absurd (omega arith)
  first-hit i (suc k) h = go (passes i) h (first-hit (i + 1) k)
    where
      go : Passes i → pick (test i) i (first test (i + 1) k) < i + suc k
          → (first test (i + 1) k < i + 1 + k → test (first test (i + 1) k) ≡ true) → test (pick (test i) i (first test (i + 1) k)) ≡ true
      go (does e) l r = rw e e
      go (fails e) l r = let h = rw e at l in rw e (r (omega arith))

  pub first-least : (i k j : ℕ) → i ≤ j → j < first test i k → test j ≡ false
  unfolding first
  first-least i zero j a b = absurd (omega arith)
  first-least i (suc k) j a b = go (passes i) b (first-least (i + 1) k j)
    where
      go : Passes i → j < pick (test i) i (first test (i + 1) k) → (i + 1 ≤ j → j < first test (i + 1) k → test j ≡ false) → test j ≡ false
      go (does e) l r = let h = rw e at l in absurd (omega arith)
      go (fails e) l r = let h = rw e at l in ⊎_elim (λ q. rw (← q) e) (λ m. r (omega arith) h) (eq-or-lt_of_le a)

-- what a search of the numbers below n answers
pub finds : (test : ℕ → Bool) (n : ℕ) (r : Option ℕ)
    → MatchOption r ((k : ℕ) → 0 ≤ k → k < n → test k ≡ false) (λ i. (0 ≤ i) × (i < n) × (test i ≡ true) × ((k : ℕ) → 0 ≤ k → k < i → test k ≡ false))
    → Finds n (first test 0 n) r
finds test n None h = ⊎_elim (λ e. e) (λ l. absurd (true≢false (sym (first-hit test 0 n (omega arith)) ∙ h _ (omega arith) l))) (eq-or-lt_of_le (omega (arith, (first-within test 0 n).1)))
finds test n (Some i) h = (h.1, go (le-or-lt i (first test 0 n)))
  where
    go : (i ≤ first test 0 n) ⊎ (first test 0 n < i) → first test 0 n ≡ i
    go (inr l) = absurd (true≢false (sym (first-hit test 0 n (omega (arith, h.1))) ∙ h.3 _ (omega arith) l))
    go (inl l) = ⊎_elim (λ e. sym e) (λ m. absurd (true≢false (sym h.2 ∙ first-least test 0 n i (omega arith) m))) (eq-or-lt_of_le l)

pub finds_none : {n i : ℕ} (r : Option ℕ) → Finds n i r → ((k : ℕ) → r ≡ Some k → ⊥) → i ≡ n
finds_none None h n = h
finds_none (Some k) h n = absurd (n k refl)

pub finds_some : {n i : ℕ} (r : Option ℕ) → Finds n i r → i < n → IsSome r
finds_some None h l = absurd (omega arith)
finds_some (Some k) h l = refl

-- tests that agree below i + k find the same
pub first-agree : (f g : ℕ → Bool) (n : ℕ) → ((j : ℕ) → j < n → f j ≡ g j) → (i k : ℕ) → i + k ≤ n → first f i k ≡ first g i k
unfolding first
first-agree f g n e i zero h = refl
first-agree f g n e i (suc k) h = rw (e i (omega arith), first-agree f g n e (i + 1) k (omega arith)) refl

pub mask-agree : (f g : ℕ → Bool) (n : ℕ) → ((j : ℕ) → j < n → f j ≡ g j) → mask_of f n ≡ mask_of g n
unfolding mask_of
mask-agree f g zero e = refl
mask-agree f g (suc n) e = rw (e n (omega arith), mask-agree f g n (λ j l. e j (omega arith))) refl

pub mask-small : (test : ℕ → Bool) (n : ℕ) → mask_of test n < 2 ^ n
unfolding mask_of
mask-small test zero = omega arith
mask-small test (suc n) = go (test n) (mask-small test n)
  where
    go : (b : Bool) → mask_of test n < 2 ^ n → mask_of test n + pick b (2 ^ n) 0 < 2 ^ suc n
    go true h = rw (pow-succ' 2 n) (omega arith)
    go false h = rw (pow-succ' 2 n) (omega arith)

-- a bit more or not, and that it fits
bit-low : (j : ℕ) → j < 32 → 1 * 2 ^ j % 2 ^ 64 ≡ 2 ^ j
bit-low j h = omega (arith, pow-le-pow_right {n = 2} (omega arith) {i = j} {j = 32} (omega arith))

pub bit-fits : (m j : ℕ) → m < 2 ^ j → j < 32 → m + 1 * 2 ^ j % 2 ^ 64 < 2 ^ 64
bit-fits m j l h = omega (arith, bit-low j h, pow-le-pow_right {n = 2} (omega arith) {i = j} {j = 32} (omega arith))

pub mask-on : (test : ℕ → Bool) (j m x : ℕ) → m ≡ mask_of test j → test j ≡ true → j < 32 → x ≡ m + 1 * 2 ^ j % 2 ^ 64 → x ≡ mask_of test (j + 1)
unfolding mask_of
mask-on test j m x e t h f = rw (add-one, t) (omega (arith, bit-low j h))

pub mask-off : (test : ℕ → Bool) (j m x : ℕ) → m ≡ mask_of test j → test j ≡ false → x ≡ m → x ≡ mask_of test (j + 1)
unfolding mask_of
mask-off test j m x e t f = rw (add-one, t) (omega arith)

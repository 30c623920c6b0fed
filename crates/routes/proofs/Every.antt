-- Laws of tests at every place below a count.
-- Assumes nothing.
use mathlib.Core.Bool.{Bool, true, false}
use mathlib.Core.Path.{◌≡◌, refl, sym, ◌∙◌}
use mathlib.Core.Logic.{⊎_elim}
use Prim.Native.Nat.{ℕ, zero, suc, ◌+◌, ◌-◌, ◌<◌}
use native.Mathlib.Omega.{arith}
use native.Mathlib.Numerals.{add-one}
use native.Mathlib.Nat.{eq-or-lt_of_le, le_of_suc-le-suc}
use lib.ListN.{length, get_or}
use Rattle.std.specs.Bool.{MatchBool}
use Rattle.std.specs.List.{AllWithin, HoldsAt, range_with_len}
use Rattle.std.proofs.lemmas.List.FromFn.{length-range_with_len, get_or-range_with_len}
use Rattle.basis.specs.Choice.{both}
use Rattle.routes.specs.Closed.{every}

pub both_true : (a b : Bool) → both a b ≡ true → (a ≡ true) × (b ≡ true)
both_true true b e = (refl, e)
both_true false b e = let z : ◌≡◌ {A = ℕ} 0 1 = cc in absurd (omega arith)

pub both_if : (a b : Bool) → a ≡ true → b ≡ true → both a b ≡ true
both_if a b p q = rw (p, q) refl

pub both_first : (a b : Bool) → a ≡ false → both a b ≡ false
both_first a b p = rw p refl

pub both-second : (a b : Bool) → b ≡ false → both a b ≡ false
both-second true b p = p
both-second false b p = refl

module _ (test : ℕ → Bool) where
  pub every_more : (i : ℕ) → every test i ≡ true → test i ≡ true → every test (i + 1) ≡ true
  unfolding every
  every_more i e t = rw add-one (both_if _ _ e t)

  pub every-stop : (n i : ℕ) → i < n → test i ≡ false → every test n ≡ false
  unfolding every
  every-stop zero i h e = absurd (omega arith)
  every-stop (suc n) i h e =
      ⊎_elim (λ q. both-second (every test n) (test n) (rw q at e)) (λ l. both_first _ _ (every-stop n i l e)) (eq-or-lt_of_le (le_of_suc-le-suc h))

  pub every-at : (n : ℕ) → every test n ≡ true → (i : ℕ) → i < n → test i ≡ true
  unfolding every
  every-at zero e i h = absurd (omega arith)
  every-at (suc n) e i h =
      let r = both_true _ _ e in
      ⊎_elim (λ q. rw q r.1) (λ l. every-at n r.0 i l) (eq-or-lt_of_le (le_of_suc-le-suc h))

  pub every_if : (n : ℕ) → ((i : ℕ) → i < n → test i ≡ true) → every test n ≡ true
  unfolding every
  every_if zero h = refl
  every_if (suc n) h = both_if _ _ (every_if n (λ i l. h i (omega arith))) (h n (omega arith))

pub every-agree : (f g : ℕ → Bool) (n : ℕ) → ((i : ℕ) → i < n → f i ≡ g i) → every f n ≡ every g n
unfolding every
every-agree f g zero h = refl
every-agree f g (suc n) h = rw (h n (omega arith), every-agree f g n (λ i l. h i (omega arith))) refl

-- what `all` over the numbers below n answers
pub all-every : (test : ℕ → Bool) (n : ℕ) (r : Bool)
    → MatchBool r (AllWithin (λ i. test i ≡ true) (range_with_len 0 (n - 0)) 0 (length (range_with_len 0 (n - 0))))
    ((k : ℕ) × (k < length (range_with_len 0 (n - 0))) × HoldsAt (λ i. test i ≡ false) (range_with_len 0 (n - 0)) k)
    → r ≡ every test n
all-every test n r h = go r h
  where
    long : length (range_with_len 0 (n - 0)) ≡ n
    long = length-range_with_len 0 (n - 0) ∙ omega arith

    at : (k : ℕ) → k < n → get_or (range_with_len 0 (n - 0)) k 0 ≡ k
    at k l = get_or-range_with_len 0 (n - 0) k 0 (omega arith) ∙ omega arith

    go : (r : Bool) → MatchBool r (AllWithin (λ i. test i ≡ true) (range_with_len 0 (n - 0)) 0 (length (range_with_len 0 (n - 0))))
        ((k : ℕ) × (k < length (range_with_len 0 (n - 0))) × HoldsAt (λ i. test i ≡ false) (range_with_len 0 (n - 0)) k)
        → r ≡ every test n
    go true h = sym (every_if test n (λ i l. rw (at i l) at (h i 0 (omega arith) (omega (arith, long)))))
    go false h =
        let l : h.0 < n = omega (arith, long, h.1) in
        sym (every-stop test n h.0 l (rw (at h.0 l) at (h.2 0)))

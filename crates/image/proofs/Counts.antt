-- Sums and counts over places: one more place, at most so much.
-- Assumes nothing.
use mathlib.Core.Path.{◌≡◌, refl, sym, ap, subst, ◌∙◌}
use mathlib.Core.Bool.{Bool, true, false, cond}
use Prim.Native.Nat.{ℕ, zero, suc, ◌+◌, ◌*◌, ◌<◌, ◌≤◌}
use mathlib.Core.List.{List, map}
use lib.ListN.{length}
use Rattle.std.specs.List.{filter, sum, range_with_len}
use Rattle.std.proofs.lemmas.List.Sums.{length-filter, sum-map}
use Rattle.std.proofs.lemmas.List.FromFn.{sum_by-map-range_with_len_more}
use native.Mathlib.Omega.{arith}
use native.Mathlib.Numerals.{add-one}
use native.Mathlib.Nat.{zero-add}
use Rattle.basis.specs.Choice.{pick}
use Rattle.image.specs.Writing.{summed, counted, source_count, target_count, held, onward}

-- one more place
pub summed-more : (f : ℕ → ℕ) (k : ℕ) → summed f (k + 1) ≡ summed f k + f k
unfolding summed
summed-more f k = rw (add-one k)

pub summed_same : (f g : ℕ → ℕ) (k : ℕ) → ((i : ℕ) → i < k → f i ≡ g i) → summed f k ≡ summed g k
unfolding summed
summed_same f g zero h = refl
summed_same f g (suc k) h = rw (summed_same f g k (λ i l. h i (omega arith)), h k (omega arith))

-- at most m at every place
pub summed-most : (f : ℕ → ℕ) (m k : ℕ) → ((i : ℕ) → i < k → f i ≤ m) → summed f k ≤ m * k
unfolding summed
summed-most f m zero h = omega arith
summed-most f m (suc k) h = omega (arith, summed-most f m k (λ i l. h i (omega arith)), h k (omega arith))

-- at most 32 at each of at most 32 places
pub summed-small : (f : ℕ → ℕ) (n k : ℕ) → ((i : ℕ) → f i ≤ n) → n ≤ 32 → k ≤ 32 → summed f k ≤ 1024
summed-small f n k h few less = omega (arith, summed-most f 32 k (λ i l. omega (arith, h i)))

pub one-most : (b : Bool) → pick b 1 0 ≤ 1
one-most true = omega arith
one-most false = omega arith

pub counted-most : (test : ℕ → Bool) (k : ℕ) → counted test k ≤ k
unfolding counted
counted-most test k = omega (arith, summed-most (λ (i : ℕ). pick (test i) 1 0) 1 k (λ i l. one-most (test i)))

pub counted-more : (test : ℕ → Bool) (k : ℕ) → counted test (k + 1) ≡ counted test k + pick (test k) 1 0
unfolding counted
counted-more test k = summed-more (λ (i : ℕ). pick (test i) 1 0) k

pub sources-most : (ks : List ℕ) (n t : ℕ) → source_count ks n t ≤ n
unfolding source_count
sources-most ks n t = counted-most (λ (s : ℕ). held ks s t) n

pub targets-most : (ks : List ℕ) (n s : ℕ) → target_count ks n s ≤ n
unfolding target_count
targets-most ks n s = counted-most (onward ks s) n

-- the lists of sources and of targets, by how many they hold
pub sources_are : (ks : List ℕ) (n t : ℕ) → counted (λ (s : ℕ). held ks s t) n ≡ source_count ks n t
unfolding source_count
sources_are ks n t = refl

pub targets_are : (ks : List ℕ) (n s : ℕ) → counted (onward ks s) n ≡ target_count ks n s
unfolding target_count
targets_are ks n s = refl

pub sources-all : (ks : List ℕ) (n : ℕ) → summed (λ (t : ℕ). counted (λ (s : ℕ). held ks s t) n) n ≡ summed (source_count ks n) n
unfolding source_count
sources-all ks n = refl

pub targets-all : (ks : List ℕ) (n : ℕ) → summed (λ (s : ℕ). counted (onward ks s) n) n ≡ summed (target_count ks n) n
unfolding target_count
targets-all ks n = refl

-- how many rows n members have
pub lists-few : (test : ℕ → ℕ → Bool) (n : ℕ) → n ≤ 32 → summed (λ (t : ℕ). counted (test t) n) n ≤ 1024
lists-few test n h = summed-small (λ (t : ℕ). counted (test t) n) n n (λ t. counted-most (test t) n) h h

pub sources-few : (ks : List ℕ) (n : ℕ) → n ≤ 32 → summed (source_count ks n) n ≤ 1024
sources-few ks n h = summed-small (source_count ks n) n n (λ i. sources-most ks n i) h h

pub targets-few : (ks : List ℕ) (n : ℕ) → n ≤ 32 → summed (target_count ks n) n ≤ 1024
targets-few ks n h = summed-small (target_count ks n) n n (λ i. targets-most ks n i) h h

-- a member's first row and its rows
pub sources-sum : (ks : List ℕ) (n i : ℕ) → n ≤ 32 → i < n → summed (source_count ks n) i + source_count ks n i ≤ 1024
sources-sum ks n i h l = omega (arith, sources-most ks n i, summed-most (source_count ks n) 32 i (λ j m. omega (arith, sources-most ks n j)))

pub targets-sum : (ks : List ℕ) (n i : ℕ) → n ≤ 32 → i < n → summed (target_count ks n) i + target_count ks n i ≤ 1024
targets-sum ks n i h l = omega (arith, targets-most ks n i, summed-most (target_count ks n) 32 i (λ j m. omega (arith, targets-most ks n j)))

-- ---- the same over a range of places, as an iterator yields them
pub range-summed : (f : ℕ → ℕ) (n : ℕ) → sum (map f (range_with_len 0 n)) ≡ summed f n
unfolding summed
range-summed f zero = refl
range-summed f (suc n) =
    subst (λ (x : ℕ). sum (map f (range_with_len 0 x)) ≡ sum (map f (range_with_len 0 n)) + f n) (add-one n) (sum_by-map-range_with_len_more (λ x. x) f 0 n n (zero-add n))
    ∙ ap (λ (x : ℕ). x + f n) (range-summed f n)

one_is : (b : Bool) → cond {A = ℕ} b 1 0 ≡ pick b 1 0
one_is true = refl
one_is false = refl

pub range-counted : (test : ℕ → Bool) (n : ℕ) → length (filter test (range_with_len 0 n)) ≡ counted test n
unfolding counted
range-counted test n =
    length-filter test (range_with_len 0 n)
    ∙ sym (sum-map (λ x. cond (test x) 1 0) (range_with_len 0 n))
    ∙ range-summed (λ x. cond (test x) 1 0) n
    ∙ summed_same _ _ n (λ i l. one_is (test i))

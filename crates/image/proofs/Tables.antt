-- Tables: rows one after another, over any row and any row length.
-- Assumes nothing.
use mathlib.Core.Path.{◌≡◌, refl, sym, ap, ◌∙◌}
use mathlib.Core.Logic.{⊎_elim}
use mathlib.Core.List.{List, [], ◌∷◌, ◌++◌, append_assoc, append-nil}
use Prim.Native.Nat.{ℕ, zero, suc, ◌+◌, ◌*◌, ◌<◌, ◌≤◌}
use native.Mathlib.Omega.{arith}
use native.Mathlib.Nat.{mul-zero, eq-or-lt_of_le}
use native.Mathlib.Numerals.{add-one}
use lib.ListN.{length, get_or, take, length-append, get_or-append}
use lib.Seq.{take_at, get_or_at, drop-append-add, take-suc, take-length}
use Rattle.basis.specs.Parts.{part}
use Rattle.image.specs.Image.{laid, gathered, first_of, up_to}

module _ {A : Type 0} where
  -- ---- rows, one after another
  pub laid_append : (row : A → List ℕ) (xs ys : List A) → laid row (xs ++ ys) ≡ laid row xs ++ laid row ys
  unfolding laid
  laid_append row [] ys = refl
  laid_append row (x ∷ xs) ys = rw (laid_append row xs ys, append_assoc)

  pub laid_one : (row : A → List ℕ) (x : A) → laid row (x ∷ []) ≡ row x
  unfolding laid
  laid_one row x = append-nil (row x)

  pub length-laid : (row : A → List ℕ) (w : ℕ) → ((x : A) → length (row x) ≡ w) → (xs : List A) → length (laid row xs) ≡ w * length xs
  unfolding laid
  length-laid row w h [] = omega (arith, mul-zero w)
  length-laid row w h (x ∷ xs) = omega (arith, length-append (row x) (laid row xs), h x, length-laid row w h xs)

  -- row k of a table
  pub row_at : (row : A → List ℕ) (w : ℕ) → ((x : A) → length (row x) ≡ w) → (xs : List A) (k : ℕ) (d : A) → k < length xs → part w (w * k) (laid row xs) ≡ row (get_or xs k d)
  unfolding laid part
  row_at row w h [] k d l = absurd (omega arith)
  row_at row w h (x ∷ xs) zero d l = rw (mul-zero w) (take_at (row x) (laid row xs) w (h x))
  row_at row w h (x ∷ xs) (suc k) d l =
      let e : w * suc k ≡ length (row x) + w * k = omega (arith, h x) in
      rw (e, drop-append-add (row x) (laid row xs) (w * k)) (row_at row w h xs k d (omega arith))

  -- ---- lists of places, one after another
  pub gathered-more : (f : ℕ → List A) (k : ℕ) → gathered f (k + 1) ≡ gathered f k ++ f k
  unfolding gathered
  gathered-more f k = rw (add-one k)

  pub gathered-same : (f g : ℕ → List A) (k : ℕ) → ((i : ℕ) → i < k → f i ≡ g i) → gathered f k ≡ gathered g k
  unfolding gathered
  gathered-same f g zero h = refl
  gathered-same f g (suc k) h = rw (gathered-same f g k (λ i l. h i (omega arith)), h k (omega arith))

  pub length-gathered : (f : ℕ → List A) (k : ℕ) → length (gathered f k) ≡ first_of f k
  unfolding gathered first_of
  length-gathered f zero = refl
  length-gathered f (suc k) = rw (length-append (gathered f k) (f k), length-gathered f k)

  pub first_of-same : (f g : ℕ → List A) (k : ℕ) → ((i : ℕ) → i < k → f i ≡ g i) → first_of f k ≡ first_of g k
  first_of-same f g k h = sym (length-gathered f k) ∙ ap length (gathered-same f g k h) ∙ length-gathered g k

  -- place k's list stands within the first n
  pub gathered-room : (f : ℕ → List A) (k n : ℕ) → k < n → length (gathered f k) + length (f k) ≤ length (gathered f n)
  unfolding gathered
  gathered-room f k zero l = absurd (omega arith)
  gathered-room f k (suc n) l =
      ⊎_elim
      (λ e. rw e (omega (arith, length-append (gathered f n) (f n))))
      (λ h. omega (arith, length-append (gathered f n) (f n), gathered-room f k n h))
      (eq-or-lt_of_le {n = k} {m = n} (omega arith))

  -- the rows of each place laid, one after another, are the rows of all places laid
  pub laid-gathered : (row : A → List ℕ) (f : ℕ → List A) (k : ℕ) → gathered (λ (i : ℕ). laid row (f i)) k ≡ laid row (gathered f k)
  unfolding gathered laid
  laid-gathered row f zero = refl
  laid-gathered row f (suc k) = rw (laid-gathered row f k, laid_append row (gathered f k) (f k))

-- a row for each place
pub laid-up_to : (row : ℕ → List ℕ) (k : ℕ) → gathered row k ≡ laid row (up_to k)
unfolding up_to
laid-up_to row k = gathered-same row (λ (i : ℕ). laid row (i ∷ [])) k (λ i l. sym (laid_one row i)) ∙ laid-gathered row (λ (i : ℕ). i ∷ []) k

pub length-up_to : (k : ℕ) → length (up_to k) ≡ k
unfolding up_to gathered
length-up_to zero = refl
length-up_to (suc k) = omega (arith, length-append (up_to k) (k ∷ []), length-up_to k)

-- place i of the places below k
pub get_or-up_to : (k i d : ℕ) → i < k → get_or (up_to k) i d ≡ i
unfolding up_to gathered
get_or-up_to zero i d l = absurd (omega arith)
get_or-up_to (suc k) i d l =
    ⊎_elim
    (λ e. rw e (get_or_at (up_to k) k [] d k (length-up_to k)))
    (λ h. get_or-append (up_to k) (k ∷ []) d i (rw (length-up_to k) h) ∙ get_or-up_to k i d h)
    (eq-or-lt_of_le {n = i} {m = k} (omega arith))

-- the rows of a list, place by place
pub laid-take : {A : Type 0} (row : A → List ℕ) (d : A) (xs : List A) (k : ℕ) → k ≤ length xs → gathered (λ (i : ℕ). row (get_or xs i d)) k ≡ laid row (take k xs)
unfolding gathered laid
laid-take row d xs zero h = refl
laid-take row d xs (suc k) h =
    rw (laid-take row d xs k (omega arith), take-suc xs k d (omega arith), laid_append row (take k xs) (get_or xs k d ∷ []), laid_one row (get_or xs k d))

pub laid-all : {A : Type 0} (row : A → List ℕ) (d : A) (xs : List A) → gathered (λ (i : ℕ). row (get_or xs i d)) (length xs) ≡ laid row xs
laid-all row d xs = laid-take row d xs (length xs) (omega arith) ∙ ap (laid row) (take-length xs)

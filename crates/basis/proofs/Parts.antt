-- A part replaced: what is there now, and that every other element is as it was. The width is a variable throughout.
-- Assumes nothing.
use Prim.Native.Nat.{ℕ, suc, ◌+◌, ◌-◌, ◌<◌, ◌≤◌}
use mathlib.Core.Path.{◌≡◌, refl, sym, ap, ◌∙◌}
use mathlib.Core.List.{List, [], ◌∷◌, ◌++◌, append_assoc}
use native.Mathlib.Omega.{arith}
use native.Mathlib.Numerals.{add-one}
use native.Mathlib.Nat.{suc-add, add-suc, add-zero}
use lib.ListN.{length, get_or, set, take, drop, length-append, length-drop, take-append-drop, get_or-append}
use lib.Seq.{length-take-le, take-append-le, drop-append-le, drop-append-add, take_at, drop_at, drop-drop, get_or-take, get_or-drop, drop-set-lt, take-suc-set}
use Rattle.basis.specs.Parts.{part, replaced}

module _ {A : Type 0} where
  -- nothing put in changes nothing
  pub replaced-none : (i : ℕ) (l : List A) → replaced i [] l ≡ l
  unfolding replaced
  replaced-none i l = rw (add-zero i) (take-append-drop i l)

  -- one element put in, then the rest
  pub replaced-more : (i : ℕ) (x : A) (xs l : List A) → i + suc (length xs) ≤ length l → replaced i (x ∷ xs) l ≡ replaced (i + 1) xs (set l i x)
  unfolding replaced
  replaced-more i x xs l h =
      let inside : i < length l = omega arith in
      let past : i + 1 + length xs ≡ i + suc (length xs) = omega arith in
      rw (add-one i, take-suc-set l i x inside, drop-set-lt (suc i + length xs) l i x (omega arith), suc-add i (length xs), add-suc i (length xs), append_assoc)

  pub length-replaced : (i : ℕ) (xs l : List A) → i + length xs ≤ length l → length (replaced i xs l) ≡ length l
  unfolding replaced
  length-replaced i xs l h = simp (length-append, length-drop, length-take-le i l (omega arith)) (omega arith)

  -- what was put in is there
  pub part-replaced : (i : ℕ) (xs l : List A) → i + length xs ≤ length l → part (length xs) i (replaced i xs l) ≡ xs
  unfolding part replaced
  part-replaced i xs l h = rw (drop_at (take i l) (xs ++ drop (i + length xs) l) i (length-take-le i l (omega arith)), take_at xs (drop (i + length xs) l) (length xs) refl)

  -- a part of the first of two lists
  pub part_left : (k j : ℕ) (xs ys : List A) → j + k ≤ length xs → part k j (xs ++ ys) ≡ part k j xs
  unfolding part
  part_left k j xs ys h = rw (drop-append-le j xs ys (omega arith), take-append-le k (drop j xs) ys (simp length-drop (omega arith)))

  -- a part before it is as it was
  pub part-before : (k j i : ℕ) (xs l : List A) → j + k ≤ i → i ≤ length l → part k j (replaced i xs l) ≡ part k j l
  unfolding replaced
  part-before k j i xs l b h =
      let front : j + k ≤ length (take i l) = rw (length-take-le i l h) b in
      part_left k j (take i l) (xs ++ drop (i + length xs) l) front ∙ sym (part_left k j (take i l) (drop i l) front) ∙ rw (take-append-drop i l)

  -- what stands behind it is as it was
  pub rest-replaced : (j i : ℕ) (xs l : List A) → i + length xs ≤ j → i ≤ length l → drop j (replaced i xs l) ≡ drop j l
  unfolding replaced
  rest-replaced j i xs l b h =
      let front : length (take i l ++ xs) ≡ i + length xs = simp (length-append, length-take-le i l h) in
      let split : length (take i l ++ xs) + (j - (i + length xs)) ≡ j = omega arith in
      let back : i + length xs + (j - (i + length xs)) ≡ j = omega arith in
      rw (← append_assoc (take i l) xs (drop (i + length xs) l))
      (ap (λ (n : ℕ). drop n ((take i l ++ xs) ++ drop (i + length xs) l)) (sym split)
      ∙ drop-append-add (take i l ++ xs) (drop (i + length xs) l) (j - (i + length xs))
      ∙ drop-drop (j - (i + length xs)) (i + length xs) l
      ∙ ap (λ (n : ℕ). drop n l) back)

  pub part-after : (k j i : ℕ) (xs l : List A) → i + length xs ≤ j → i ≤ length l → part k j (replaced i xs l) ≡ part k j l
  unfolding part
  part-after k j i xs l b h = ap (take k) (rest-replaced j i xs l b h)

  -- every other element is as it was
  pub before-replaced : (i : ℕ) (xs l : List A) (j : ℕ) (d : A) → j < i → i ≤ length l → get_or (replaced i xs l) j d ≡ get_or l j d
  unfolding replaced
  before-replaced i xs l j d b h = get_or-append (take i l) (xs ++ drop (i + length xs) l) d j (rw (length-take-le i l h) b) ∙ get_or-take i l j d b

  pub after-replaced : (i : ℕ) (xs l : List A) (j : ℕ) (d : A) → i + length xs ≤ j → i ≤ length l → get_or (replaced i xs l) j d ≡ get_or l j d
  after-replaced i xs l j d b h = rw (← add-zero j, ← get_or-drop j l 0 d, ← get_or-drop j (replaced i xs l) 0 d, rest-replaced j i xs l b h)

  -- two parts that meet, put in one after the other
  pub replaced-join : (i : ℕ) (xs ys l : List A) → i ≤ length l → replaced (i + length xs) ys (replaced i xs l) ≡ replaced i (xs ++ ys) l
  unfolding replaced
  replaced-join i xs ys l h = ap (λ (r : List A). r ++ (ys ++ drop (i + length xs + length ys) (replaced i xs l))) front ∙ ap (λ (r : List A). (take i l ++ xs) ++ (ys ++ r)) back ∙ regroup
    where
      front : take (i + length xs) (replaced i xs l) ≡ take i l ++ xs
      front = rw (← append_assoc (take i l) xs (drop (i + length xs) l)) (take_at (take i l ++ xs) (drop (i + length xs) l) (i + length xs) (simp (length-append, length-take-le i l h)))

      back : drop (i + length xs + length ys) (replaced i xs l) ≡ drop (i + length xs + length ys) l
      back = rest-replaced (i + length xs + length ys) i xs l (omega arith) h

      regroup : (take i l ++ xs) ++ (ys ++ drop (i + length xs + length ys) l) ≡ replaced i (xs ++ ys) l
      regroup = let e : i + length xs + length ys ≡ i + (length xs + length ys) = omega arith in simp (append_assoc, length-append, e)

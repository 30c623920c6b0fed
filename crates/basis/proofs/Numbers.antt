-- Little-endian numbers: both ways, over any width.
-- Assumes nothing.
use Prim.Native.Nat.{ℕ, zero, suc, ◌+◌, ◌*◌, ◌/◌, ◌%◌, ◌^◌, ◌<◌, ◌≤◌}
use mathlib.Core.Path.{◌≡◌, refl, sym, ap, ◌∙◌}
use mathlib.Core.List.{List, [], ◌∷◌, ◌++◌}
use native.Mathlib.Omega.{arith}
use native.Mathlib.Numerals.{add-one}
use native.Mathlib.Nat.{pow-zero, pow-suc, pow-succ', mul_assoc, mul_comm, div-div-eq-div-mul, div-one, suc-add, zero-add, one-mul}
use lib.ListN.{length, get_or, take, drop, length-drop}
use lib.Seq.{drop-cons, take-add, take-suc, drop-drop, length-take-le}
use borrow.Rule.Slice.PartMut.{put_mid}
use Rattle.std.specs.Int.{sum_through, byte_worth, byte_at, bytes_low_first}
use Rattle.std.proofs.lemmas.List.{take_all}
use Rattle.basis.specs.Numbers.{bytes, number, number_at}
use Rattle.basis.specs.Parts.{part, replaced}
use Rattle.basis.proofs.Parts.{part-replaced}

pub length-bytes : (k n : ℕ) → length (bytes k n) ≡ k
unfolding bytes
length-bytes zero n = refl
length-bytes (suc k) n = ap suc (length-bytes k (n / 256))

-- bytes of a width j + k: the low j, then the high k
pub bytes-add : (j k n : ℕ) → bytes (j + k) n ≡ bytes j n ++ bytes k (n / 256 ^ j)
unfolding bytes
bytes-add zero k n = rw (zero-add k, pow-zero 256, div-one n)
bytes-add (suc j) k n = rw (suc-add j k, pow-succ' 256 j, ← div-div-eq-div-mul n 256 (256 ^ j), bytes-add j k (n / 256))

-- the number of two lists, one after the other
pub number_append : (xs ys : List ℕ) → number (xs ++ ys) ≡ number xs + 256 ^ length xs * number ys
unfolding number
number_append [] ys = rw (pow-zero 256, one-mul (number ys), zero-add (number ys))
number_append (b ∷ bs) ys = rw (pow-succ' 256 (length bs), mul_assoc 256 (256 ^ length bs) (number ys)) (omega (arith, number_append bs ys))

-- ---- the round trip
-- a number that fits k bytes is what its bytes say
pub number-bytes : (k n : ℕ) → n < 256 ^ k → number (bytes k n) ≡ n
unfolding number bytes
number-bytes zero n h = omega (arith, pow-zero 256)
number-bytes (suc k) n h =
    let low : n / 256 < 256 ^ k = omega (arith, pow-succ' 256 k) in
    omega (arith, number-bytes k (n / 256) low)

-- every element is a byte
abbrev pub Bytes : List ℕ → Type 0
Bytes [] = Unit {0}
Bytes (b ∷ bs) = (b < 256) × Bytes bs

-- bytes are those of the number that they say
pub bytes-number : (bs : List ℕ) → Bytes bs → bytes (length bs) (number bs) ≡ bs
unfolding number bytes
bytes-number [] h = refl
bytes-number (b ∷ bs) h =
    let low : (b + 256 * number bs) % 256 ≡ b = omega (arith, h.0) in
    let high : (b + 256 * number bs) / 256 ≡ number bs = omega (arith, h.0) in
    rw (low, high, bytes-number bs h.1)

pub number_small : (bs : List ℕ) → Bytes bs → number bs < 256 ^ length bs
unfolding number
number_small [] h = omega (arith, pow-zero 256)
number_small (b ∷ bs) h = omega (arith, pow-succ' 256 (length bs), number_small bs h.1, h.0)

-- ---- at a place
pub at_none : (i : ℕ) (l : List ℕ) → number_at 0 i l ≡ 0
unfolding number_at number
at_none i l = refl

pub at_more : (k i : ℕ) (l : List ℕ) → i < length l → number_at (suc k) i l ≡ get_or l i 0 + 256 * number_at k (i + 1) l
unfolding number_at number
at_more k i l h = rw (drop-cons l i 0 h, add-one i)

-- a number of width j + k: the low j bytes, and the high k
pub at-add : (j k i : ℕ) (l : List ℕ) → i + j ≤ length l → number_at (j + k) i l ≡ number_at j i l + 256 ^ j * number_at k (i + j) l
unfolding number_at
at-add j k i l h =
    rw (take-add j k (drop i l), drop-drop j i l, number_append (take j (drop i l)) (take k (drop (i + j) l)), length-take-le j (drop i l) (simp length-drop (omega arith)))

-- ---- std's bytes of a number
pub le-number : (k : ℕ) (bs : List ℕ) → k < length bs → sum_through (λ i. byte_worth i (get_or bs i 0)) k ≡ number (take (suc k) bs)
unfolding number
le-number zero bs l = rw (take-suc bs 0 0 l) (omega arith)
le-number (suc k) bs l =
    let m : length (take (suc k) bs) ≡ suc k = length-take-le (suc k) bs (omega arith) in
    rw (take-suc bs (suc k) 0 l, number_append (take (suc k) bs) (get_or bs (suc k) 0 ∷ []), m, ← le-number k bs (omega arith), mul_comm (get_or bs (suc k) 0) (256 ^ suc k)) (omega arith)

-- the number in k bytes at a place, as std reads them
pub le-at : (k i : ℕ) (l bs : List ℕ) → i + suc k ≤ length l → bs ≡ take (suc k) (drop i l) → sum_through (λ j. byte_worth j (get_or bs j 0)) k ≡ number_at (suc k) i l
unfolding number_at
le-at k i l bs h e =
    let n : length bs ≡ suc k = ap length e ∙ length-take-le (suc k) (drop i l) (simp length-drop (omega arith)) in
    le-number k bs (omega arith) ∙ ap number (take_all (suc k) bs (omega arith) ∙ e)

-- eight bytes at a place: as std reads them, and as two halves, the low one first
pub eight-read : (i x : ℕ) (l bs : List ℕ) → i + 8 ≤ length l → x ≡ sum_through (λ j. byte_worth j (get_or bs j 0)) 7 → bs ≡ take 8 (drop i l) → x ≡ number_at 8 i l
eight-read i x l bs h q e = q ∙ le-at 7 i l bs h e

pub eight-halves : (i low high : ℕ) (l : List ℕ) → i + 8 ≤ length l → low ≡ number_at 4 i l → high ≡ number_at 4 (i + 4) l → low + 4294967296 * high ≡ number_at 8 i l
eight-halves i low high l h p q = rw (p, q) (sym (at-add 4 4 i l (omega arith)))

-- byte i and those above it
pub le-bytes : (k i n : ℕ) → bytes_low_first i k n ≡ bytes k (n / 256 ^ i)
unfolding bytes
le-bytes zero i n = refl
le-bytes (suc k) i n =
    let q : n / 256 ^ i / 256 ≡ n / 256 ^ suc i = div-div-eq-div-mul n (256 ^ i) 256 ∙ ap (λ (m : ℕ). n / m) (sym (pow-suc 256 i)) in
    rw (q, byte-is i) (ap (λ (l : List ℕ). n / 256 ^ i % 256 ∷ l) (le-bytes k (suc i) n))
  where
    byte-is : (i : ℕ) → byte_at i n ≡ n / 256 ^ i % 256
    byte-is zero = rw (pow-zero 256, div-one n) refl
    byte-is (suc i) = refl

-- what is put in the place of as many bytes
pub put-replaced : (k n i m : ℕ) (l ys : List ℕ) → m ≡ k → ys ≡ bytes_low_first 0 k n → put_mid i m l ys ≡ replaced i (bytes k n) l
unfolding replaced
put-replaced k n i m l ys e q =
    let b : ys ≡ bytes k n = q ∙ le-bytes k 0 n ∙ rw (pow-zero 256, div-one n) refl in
    rw (b, e, length-bytes k n) (ap (λ (r : List ℕ). take i l ++ (bytes k n ++ r)) (drop-drop k i l))

-- ---- what was written is read back
pub at-replaced : (k n i : ℕ) (l : List ℕ) → n < 256 ^ k → i + k ≤ length l → number_at k i (replaced i (bytes k n) l) ≡ n
unfolding number_at part
at-replaced k n i l small h =
    let fits : i + length (bytes k n) ≤ length l = rw (length-bytes k n) h in
    ap (λ (w : ℕ). number (take w (drop i (replaced i (bytes k n) l)))) (sym (length-bytes k n))
    ∙ ap number (part-replaced i (bytes k n) l fits)
    ∙ number-bytes k n small

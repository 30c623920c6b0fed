-- Laws of the place of a byte.
-- Assumes nothing.
use Rattle.std.proofs.Common.{ℕ, ◌≡◌, ◌+◌, ◌≤◌, ◌==◌, List, Bool, true, false, Some, None, length, refl, ap, sym, ◌∙◌, ◌-◌, take, drop, cond, arith, unwrap_or, option_map, position, nat_lt}
use Rattle.std.specs.List.{position_or_len}
use Rattle.std.proofs.lemmas.List.Recursion.{is_position_or_len}
use Rattle.std.proofs.lemmas.List.Sums.{prefix_len-le-length}
use borrow.Author.Tests.{ltb-false}
use Rattle.std.proofs.lemmas.List.{length-drop, length-take}
use Rattle.std.proofs.Math.Seq.{take-length}
use Rattle.text.specs.Bytes.{index_after, index_of, slice}
use Rattle.text.specs.Words.{word_end}

after : (b : Bool) (k : ℕ) → index_after b k ≡ cond b 0 (1 + k)
unfolding index_after
after true k = refl
after false k = omega arith

-- the place of the first such byte, in the library's word
index_is : (b : ℕ) (xs : List ℕ) → index_of b xs ≡ position_or_len (λ x. x == b) xs
unfolding index_of
index_is b xs = is_position_or_len (index_of b) (λ x. x == b) refl (λ x ys. after (x == b) (index_of b ys)) xs

-- the place of the first such byte from `from` on, or the end n
place_or-end : (b from n : ℕ) (xs : List ℕ) → from + length xs ≡ n → unwrap_or (option_map (λ k. from + k) (position (λ x. x == b) xs)) n ≡ from + index_of b xs
place_or-end b from n xs h = rw index_is (go (nat_lt p (length xs)) refl)
  where
    p : ℕ
    p = position_or_len (λ x. x == b) xs

    go : (t : Bool) → nat_lt p (length xs) ≡ t → unwrap_or (option_map (λ k. from + k) (cond t (Some p) None)) n ≡ from + p
    go true e = refl
    go false e =
        let l : p ≤ length xs = prefix_len-le-length _ xs in
        let k : n ≡ from + p = omega (arith, ltb-false p (length xs) e) in
        k

-- what a slice has from a place on
pub tail-is : (l : List ℕ) (n : ℕ) → take (length l - n) (drop n l) ≡ drop n l
tail-is l n = ap (λ (i : ℕ). take i (drop n l)) (sym (length-drop n l)) ∙ take-length (drop n l)

-- a word ends at the first space after `from`, or at the line's end
pub word_end-is : (l : List ℕ) (from : ℕ) → from ≤ length l → unwrap_or (option_map (λ k. from + k) (position (λ x. x == 32) (take (length l - from) (drop from l)))) (length l) ≡ word_end l from
unfolding word_end
word_end-is l from h =
    let n : from + length (slice from (length l) l) ≡ length l = simp (length-drop, length-take) (omega arith) in
    let e : take (length l - from) (drop from l) ≡ slice from (length l) l =
    ap (λ (i : ℕ). take i (drop from l)) (sym (length-drop from l)) ∙ take-length (drop from l) ∙ sym (ap (drop from) (take-length l)) in
    ap (λ (xs : List ℕ). unwrap_or (option_map (λ k. from + k) (position (λ x. x == 32) xs)) (length l)) e
    ∙ place_or-end 32 from (length l) (slice from (length l) l) n

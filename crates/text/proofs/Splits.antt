-- Laws of words.
-- Assumes nothing.
use Rattle.std.proofs.Common.{ℕ, ◌≡◌, ◌+◌, ◌<◌, ◌≤◌, ◌==◌, Bool, true, false, List, [], ◌∷◌, Some, cond, length, drop, get_or, arith, refl, ap, sym, ◌∙◌}
use Rattle.std.specs.List.{slice_split, onto_first}
use Rattle.std.specs.Option.{option_and_then}
use Rattle.std.proofs.lemmas.List.{at_drop_more, at_drop_all}
use Rattle.std.proofs.lemmas.List.Splits.{length-slice_split}
use borrow.Author.Tests.{lt-ltb, le-ltb}
use Rattle.basis.specs.Choice.{pick, chosen, passed}
use Rattle.text.specs.Numbers.{number_of, led_by, leading, count_from}
use Rattle.text.specs.Words.{prefixed, words_of, words_after}

same : {A : Type 0} (t : Bool) (x y z w : A) → x ≡ z → y ≡ w → pick t x y ≡ cond t z w
same true x y z w e f = e
same false x y z w e f = f

in-front : (b : ℕ) (ws : List (List ℕ)) → 0 < length ws → prefixed b ws ≡ onto_first b ws
unfolding prefixed
in-front b [] h = absurd (omega arith)
in-front b (w ∷ ws) h = refl

-- the words are the parts in which the library's `split` cuts the line
words-split : (l : List ℕ) → words_of l ≡ slice_split (λ b. b == 32) l
unfolding words_of
words-split [] = refl
words-split (b ∷ l) =
    let e : words_of l ≡ slice_split (λ x. x == 32) l = words-split l in
    let h : 0 < length (words_of l) = rw e (omega (arith, length-slice_split (λ (x : ℕ). x == 32) l)) in
    same (b == 32) _ _ _ _ (ap (λ (ws : List (List ℕ)). [] ∷ ws) e) (in-front b (words_of l) h ∙ ap (onto_first b) e)

module _ (l : List ℕ) (at : ℕ) where
  pub words-next : at < length l → words_after l at ≡ slice_split (λ b. b == 32) (drop (at + 1) l)
  unfolding words_after
  words-next h = sym (chosen _ _ _ _ (lt-ltb at (length l) h) refl) ∙ words-split (drop (at + 1) l)

  -- nothing follows the line's end
  pub words-none : length l ≤ at → words_after l at ≡ []
  unfolding words_after
  words-none h = sym (passed _ _ _ _ (le-ltb at (length l) h) refl)

-- the k-th word is w
module _ (ws : List (List ℕ)) (k i : ℕ) (w : List ℕ) (e : k ≡ i) (h : (i < length ws) × (w ≡ get_or ws i w)) where
  at-word : (k < length ws) × (w ≡ get_or ws k w)
  at-word = rw e h

  pub count-turn : count_from k (drop k ws) ≡ option_and_then (λ (v : ℕ). count_from (k + 1) (drop (k + 1) ws)) (number_of w)
  unfolding count_from
  count-turn =
      at_drop_more (count_from k) ws k w at-word.0
      ∙ ap (λ (x : List ℕ). option_and_then (λ (v : ℕ). count_from (k + 1) (drop (k + 1) ws)) (number_of x)) (sym at-word.1)

  pub leading-turn : leading (drop k ws) ≡ led_by (number_of w) (leading (drop (k + 1) ws))
  unfolding leading
  leading-turn =
      at_drop_more leading ws k w at-word.0
      ∙ ap (λ (x : List ℕ). led_by (number_of x) (leading (drop (k + 1) ws))) (sym at-word.1)

-- there is no k-th word
module _ (ws : List (List ℕ)) (k i : ℕ) (e : k ≡ i) (h : i ≡ length ws) where
  pub count-end : count_from k (drop k ws) ≡ Some k
  unfolding count_from
  count-end = at_drop_all (count_from k) ws k (omega arith)

  pub leading-end : leading (drop k ws) ≡ []
  unfolding leading
  leading-end = at_drop_all leading ws k (omega arith)

-- The words of a line: "words separated by a space".
-- Assumes nothing.
use Rattle.std.specs.Prelude.{ℕ, ◌+◌, List, [], ◌∷◌, eqb, ltb, length, drop}
use Rattle.basis.specs.Choice.{pick}
use Rattle.text.specs.Bytes.{index_of, slice}

-- where the word that starts at a place ends: at the next space, or at the line's end
unfoldable pub word_end : List ℕ → ℕ → ℕ
word_end line from = from + index_of 32 (slice from (length line) line)

-- a byte put in front of the first word
unfoldable pub prefixed : ℕ → List (List ℕ) → List (List ℕ)
prefixed b [] = []
prefixed b (w ∷ ws) = (b ∷ w) ∷ ws

-- the words that single spaces separate; there is always one, which may be empty
unfoldable pub words_of : List ℕ → List (List ℕ)
words_of [] = [] ∷ []
words_of (b ∷ bs) = pick (eqb b 32) ([] ∷ words_of bs) (prefixed b (words_of bs))

-- the words after a space, or none at the line's end
unfoldable pub words_after : List ℕ → ℕ → List (List ℕ)
words_after line at = pick (ltb at (length line)) (words_of (drop (at + 1) line)) []

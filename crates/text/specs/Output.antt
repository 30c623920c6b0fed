-- What is gathered of answers, in a buffer of so many bytes.
-- Assumes nothing.
use Rattle.std.specs.Prelude.{ℕ, ◌+◌, ◌/◌, ◌%◌, List, [], ◌∷◌, ◌++◌, fold, ltb, length, take}
use Rattle.basis.specs.Choice.{pick}

-- what is gathered once one more byte has come: alone where the buffer was full, and what it held has been written
abbrev pub and_byte : ℕ → List ℕ → ℕ → List ℕ
and_byte size held b = pick (ltb (length held) size) (held ++ b ∷ []) (take size (b ∷ []))

-- what is gathered once these bytes have come, one after another
abbrev pub and_bytes : ℕ → List ℕ → List ℕ → List ℕ
and_bytes size held bs = fold (and_byte size) held bs

-- the glyph of a hex digit
abbrev pub glyph_of : ℕ → ℕ
glyph_of d = pick (ltb d 10) (48 + d) (87 + d)

-- bytes in lowercase hex
abbrev pub hex_of : List ℕ → List ℕ
hex_of [] = []
hex_of (b ∷ bs) = glyph_of (b / 16) ∷ glyph_of (b % 16) ∷ hex_of bs

-- Laws of what is gathered.
-- Assumes nothing.
use Rattle.std.proofs.Common.{ℕ, zero, suc, ◌≡◌, ◌+◌, ◌/◌, ◌%◌, ◌<◌, ◌∷◌, [], List, length, take, get_or, arith, refl, add-one}
use Rattle.text.specs.Output.{and_byte, and_bytes, glyph_of, hex_of}

after : (n : ℕ) (h bs : List ℕ) (i : ℕ) → i < length bs → and_bytes n h (hex_of (take (suc i) bs)) ≡ and_byte n (and_byte n (and_bytes n h (hex_of (take i bs))) (glyph_of (get_or bs i 0 / 16))) (glyph_of (get_or bs i 0 % 16))
after n h [] i p = absurd (omega arith)
after n h (b ∷ bs) zero p = refl
after n h (b ∷ bs) (suc i) p = after n (and_byte n (and_byte n h (glyph_of (b / 16))) (glyph_of (b % 16))) bs i (omega arith)

-- the digits of one more byte
pub hex-more : (n : ℕ) (h bs : List ℕ) (i : ℕ) → i < length bs → and_bytes n h (hex_of (take (i + 1) bs)) ≡ and_byte n (and_byte n (and_bytes n h (hex_of (take i bs))) (glyph_of (get_or bs i 0 / 16))) (glyph_of (get_or bs i 0 % 16))
hex-more n h bs i p = rw add-one (after n h bs i p)

-- Bytes in lowercase hex: two digits a byte; "odd or bad hex" says none.
-- Assumes nothing.
use Rattle.std.specs.Prelude.{ℕ, ◌+◌, ◌-◌, ◌*◌, ◌/◌, ◌%◌, Bool, false, List, [], ◌∷◌, Option, None, Some, ltb, eqb, length}
use Rattle.std.specs.List.{list_all}
use Rattle.basis.specs.Choice.{pick}

-- the value of a hex digit; 16 for any other byte
abbrev pub nibble_of : ℕ → ℕ
nibble_of b =
    pick (ltb b 48) 16
    (pick (ltb b 58) (b - 48)
    (pick (ltb b 97) 16
    (pick (ltb b 103) (b - 87) 16)))

-- every byte is a hex digit
abbrev pub all_hex : List ℕ → Bool
all_hex bs = list_all (λ b. ltb (nibble_of b) 16) bs

-- a word of hex: an even number of digits, and some
abbrev pub is_hex : List ℕ → Bool
is_hex w = pick (eqb (length w) 0) false (pick (eqb (length w % 2) 0) (all_hex w) false)

-- the bytes that pairs of digits say
unfoldable pub bytes_in : List ℕ → List ℕ
bytes_in [] = []
bytes_in (a ∷ []) = []
bytes_in (a ∷ b ∷ bs) = (16 * (nibble_of a % 16) + nibble_of b % 16) ∷ bytes_in bs

-- how many bytes a word says, with room for so many
abbrev pub bytes_of : List ℕ → ℕ → Option ℕ
bytes_of w room = pick (is_hex w) (pick (ltb room (length w / 2)) None (Some (length w / 2))) None

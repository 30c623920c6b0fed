-- Numbers as bytes, least first, of any width.
-- Assumes nothing.
use Rattle.std.specs.Prelude.{ℕ, zero, suc, ◌+◌, ◌*◌, ◌/◌, ◌%◌, List, [], ◌∷◌, take, drop}

-- n in k bytes
unfoldable pub bytes : ℕ → ℕ → List ℕ
bytes zero n = []
bytes (suc k) n = n % 256 ∷ bytes k (n / 256)

-- the number that bytes say
unfoldable pub number : List ℕ → ℕ
number [] = 0
number (b ∷ bs) = b + 256 * number bs

-- the number in the k bytes from place i on
unfoldable pub number_at : ℕ → ℕ → List ℕ → ℕ
number_at k i l = number (take k (drop i l))

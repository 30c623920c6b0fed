-- Decimal numbers: "numbers in decimal"; "a number of 2^64 or more" is none.
-- Assumes nothing.
use Rattle.std.specs.Prelude.{ℕ, ◌+◌, ◌-◌, ◌*◌, List, [], ◌∷◌, Option, None, Some, ltb, option_and_then}
use Rattle.basis.specs.Choice.{pick}

-- the number v with the digit b after it: b is a digit, and the whole is below 2^64
abbrev pub longer_of : ℕ → ℕ → Option ℕ
longer_of v b =
    pick (ltb b 48) None
    (pick (ltb 57 b) None
    (pick (ltb 18446744073709551615 (10 * v + (b - 48))) None
    (Some (10 * v + (b - 48)))))

-- the number that v and the digits after it say
unfoldable pub read_from : List ℕ → ℕ → Option ℕ
read_from [] v = Some v
read_from (b ∷ bs) v = option_and_then (read_from bs) (longer_of v b)

-- the number that a word says: one or more digits
abbrev pub number_of : List ℕ → Option ℕ
number_of [] = None
number_of (b ∷ bs) = read_from (b ∷ bs) 0

-- a number before others; where there is none, the others do not count either
abbrev pub led_by : Option ℕ → List ℕ → List ℕ
led_by None ns = []
led_by (Some n) ns = n ∷ ns

-- the numbers that words say, up to the first word that says none
unfoldable pub leading : List (List ℕ) → List ℕ
leading [] = []
leading (w ∷ ws) = led_by (number_of w) (leading ws)

-- k and as many more as there are words, if each says a number
unfoldable pub count_from : ℕ → List (List ℕ) → Option ℕ
count_from k [] = Some k
count_from k (w ∷ ws) = option_and_then (λ n. count_from (k + 1) ws) (number_of w)

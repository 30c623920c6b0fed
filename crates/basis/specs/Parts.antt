-- Lists cut into parts.
-- Assumes nothing.
use Rattle.std.specs.Prelude.{ℕ, ◌+◌, List, ◌++◌, length, take, drop}

-- the k elements from place i on
unfoldable pub part : {A : Type 0} → ℕ → ℕ → List A → List A
part k i l = take k (drop i l)

-- xs put in from place i on; every other element as it was
unfoldable pub replaced : {A : Type 0} → ℕ → List A → List A → List A
replaced i xs l = take i l ++ (xs ++ drop (i + length xs) l)

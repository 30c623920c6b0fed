-- Where a byte stands in bytes.
-- Assumes nothing.
use Rattle.std.specs.Prelude.{ℕ, suc, Bool, true, false, List, [], ◌∷◌, eqb, take, drop}

-- the bytes from one place to before another
abbrev pub slice : ℕ → ℕ → List ℕ → List ℕ
slice from to xs = drop from (take to xs)

-- the place after a byte: its own where it is the one that is looked for, else one more than in the rest
unfoldable pub index_after : Bool → ℕ → ℕ
index_after true k = 0
index_after false k = suc k

-- the place of the first such byte; their length if there is none
unfoldable pub index_of : ℕ → List ℕ → ℕ
index_of b [] = 0
index_of b (x ∷ xs) = index_after (eqb x b) (index_of b xs)

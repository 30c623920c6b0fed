-- How the compiled plan is written: each writer puts its bytes from a place on, and answers the place after them.
-- Delays come as a matrix: a kind byte and a word for each pair, 32 pairs to a row.
-- Assumes nothing.
use Rattle.std.specs.Prelude.{◌≡◌, Bool, List, [], ◌∷◌, ◌++◌, ℕ, zero, suc, ◌+◌, ◌*◌, ◌<◌, ◌≤◌, eqb, length, get_or}
use Rattle.basis.specs.Choice.{pick, not, both}
use Rattle.basis.specs.Numbers.{bytes}
use Rattle.basis.specs.Parts.{replaced}
use Rattle.plans.specs.declared.Plan.{Plan}
use Rattle.image.specs.Image.{gathered, words, source_row, target_row, header_of}

-- xs stand from `at` on, every other byte is as it was, and `next` is the place after them
pub record Put (at : ℕ) (xs before after : List ℕ) (next : ℕ) : Type 0 where
  pub placed : after ≡ replaced at xs before
  pub past : next ≡ at + length xs

-- xs fit from `at` on
abbrev pub Room : ℕ → List ℕ → List ℕ → Type 0
Room at xs l = at + length xs ≤ length l

-- a delay stands at the pair
unfoldable pub held : List ℕ → ℕ → ℕ → Bool
held ks s t = eqb (get_or ks (s * 32 + t) 0) 0

-- t is another member that s reaches
unfoldable pub onward : List ℕ → ℕ → ℕ → Bool
onward ks s t = both (not (eqb t s)) (held ks s t)

-- the sum over places 0 to k - 1
unfoldable pub summed : (ℕ → ℕ) → ℕ → ℕ
summed f zero = 0
summed f (suc k) = summed f k + f k

-- how many of places 0 to k - 1 pass
unfoldable pub counted : (ℕ → Bool) → ℕ → ℕ
counted test k = summed (λ (i : ℕ). pick (test i) 1 0) k

-- how many sources t has, and how many members are downstream of s
unfoldable pub source_count : List ℕ → ℕ → ℕ → ℕ
source_count ks n t = counted (λ (s : ℕ). held ks s t) n

unfoldable pub target_count : List ℕ → ℕ → ℕ → ℕ
target_count ks n s = counted (onward ks s) n

-- the row of a position that is listed, and nothing of another
abbrev pub listed_bytes : (ℕ → Bool) → (ℕ → List ℕ) → ℕ → List ℕ
listed_bytes listed row s = pick (listed s) (row s) []

-- the row of s as a source of t, where it is one; the rows of t's sources; those of n members
unfoldable pub source_bytes : List ℕ → List ℕ → ℕ → ℕ → List ℕ
source_bytes ks vs t s = pick (held ks s t) (source_row (record { source = s; delay = get_or vs (s * 32 + t) 0 })) []

unfoldable pub sources_bytes : List ℕ → List ℕ → ℕ → ℕ → List ℕ
sources_bytes ks vs n t = gathered (source_bytes ks vs t) n

unfoldable pub source_table : List ℕ → List ℕ → ℕ → List ℕ
source_table ks vs n = gathered (sources_bytes ks vs n) n

-- the row of t as downstream of s, where it is; the rows downstream of s; those of n members
unfoldable pub target_bytes : List ℕ → ℕ → ℕ → List ℕ
target_bytes ks s t = pick (onward ks s t) (target_row t) []

unfoldable pub targets_bytes : List ℕ → ℕ → ℕ → List ℕ
targets_bytes ks n s = gathered (target_bytes ks s) n

unfoldable pub target_table : List ℕ → ℕ → List ℕ
target_table ks n = gathered (targets_bytes ks n) n

-- every number fits a u32
abbrev pub Small : List ℕ → Type 0
Small [] = Unit {0}
Small (x ∷ xs) = (x < 4294967296) × Small xs

-- a member's row: its id and its u32
unfoldable pub member_bytes : ℕ → ℕ → ℕ → ℕ → ℕ → ℕ → ℕ → ℕ → List ℕ
member_bytes id capacity d dc t tc w wc = bytes 8 id ++ words (capacity ∷ d ∷ dc ∷ t ∷ tc ∷ w ∷ wc ∷ 0 ∷ [])

-- an edge's row
unfoldable pub edge_bytes : ℕ → ℕ → ℕ → ℕ → List ℕ
edge_bytes id source target delay = bytes 8 id ++ (words (source ∷ target ∷ []) ++ bytes 8 delay)

-- edge k's row; the rows of e edges
abbrev pub edge_in : List ℕ → List ℕ → List ℕ → List ℕ → ℕ → List ℕ
edge_in rs ss ts ds k = edge_bytes (get_or rs k 0) (get_or ss k 0) (get_or ts k 0) (get_or ds k 0)

unfoldable pub edges_bytes : List ℕ → List ℕ → List ℕ → List ℕ → ℕ → List ℕ
edges_bytes rs ss ts ds e = gathered (edge_in rs ss ts ds) e

-- member i's row, of direct delays' kinds dk and minimum delays' kinds mk; the rows of n members
unfoldable pub member_in : List ℕ → List ℕ → List ℕ → List ℕ → ℕ → ℕ → List ℕ
member_in ids cs dk mk n i =
    member_bytes (get_or ids i 0) (get_or cs i 0)
    (summed (source_count dk n) i) (source_count dk n i)
    (summed (source_count mk n) i) (source_count mk n i)
    (summed (target_count mk n) i) (target_count mk n i)

unfoldable pub members_bytes : List ℕ → List ℕ → List ℕ → List ℕ → ℕ → List ℕ
members_bytes ids cs dk mk n = gathered (member_in ids cs dk mk n) n

-- the header and the tables of members and edges, and the tables behind them
unfoldable pub front_bytes : Plan → List ℕ → List ℕ → ℕ → ℕ → ℕ → List ℕ
front_bytes p dk mk d t w =
    header_of p.members p.edges d t w
    ++ (members_bytes p.ids p.capacities dk mk p.members
    ++ edges_bytes p.routes p.sources p.targets p.delays p.edges)

unfoldable pub back_bytes : List ℕ → List ℕ → List ℕ → List ℕ → ℕ → List ℕ
back_bytes dk dv mk mv n = source_table dk dv n ++ (source_table mk mv n ++ target_table mk n)

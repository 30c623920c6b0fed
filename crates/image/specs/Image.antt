-- The compiled plan, byte for byte.
-- Assumes nothing.
use Rattle.std.specs.Prelude.{ℕ, zero, suc, ◌+◌, ◌*◌, List, [], ◌∷◌, ◌++◌, length, get_or}
use Rattle.basis.specs.Numbers.{bytes}
use Rattle.plans.specs.declared.Plan.{Plan}
use Rattle.delays.specs.Lists.{Source, direct_sources, transitive_sources, downstream}

-- rows one after another, each written by `row`: the one form of every table
unfoldable pub laid : {A : Type 0} → (A → List ℕ) → List A → List ℕ
laid row [] = []
laid row (x ∷ xs) = row x ++ laid row xs

-- the lists of places 0 to k - 1, one after another
unfoldable pub gathered : {A : Type 0} → (ℕ → List A) → ℕ → List A
gathered f zero = []
gathered f (suc k) = gathered f k ++ f k

-- "First" is the sum of earlier members' counts.
unfoldable pub first_of : {A : Type 0} → (ℕ → List A) → ℕ → ℕ
first_of f zero = 0
first_of f (suc k) = first_of f k + length (f k)

-- places 0 to k - 1
unfoldable pub up_to : ℕ → List ℕ
up_to k = gathered (λ (i : ℕ). i ∷ []) k

-- u32 after u32
abbrev pub words : List ℕ → List ℕ
words l = laid (bytes 4) l

-- bytes of the header, of a member row, of an edge, of a direct or transitive row, of a downstream row
abbrev pub header : ℕ
header = 48

abbrev pub member_width : ℕ
member_width = 40

abbrev pub edge_width : ℕ
edge_width = 24

abbrev pub source_width : ℕ
source_width = 16

abbrev pub target_width : ℕ
target_width = 4

-- Member row, 40 bytes: id u64; u32 capacity, then first row and row count for direct, transitive, downstream; u32 zero.
unfoldable pub member_row : Plan → ℕ → List ℕ
member_row p i =
    bytes 8 (get_or p.ids i 0)
    ++ words
    (get_or p.capacities i 0
    ∷ first_of (direct_sources p) i
    ∷ length (direct_sources p i)
    ∷ first_of (transitive_sources p) i
    ∷ length (transitive_sources p i)
    ∷ first_of (downstream p) i
    ∷ length (downstream p i)
    ∷ 0
    ∷ [])

-- Edge: id u64, source and target positions u32, delay u64.
unfoldable pub edge_row : Plan → ℕ → List ℕ
edge_row p k =
    bytes 8 (get_or p.routes k 0)
    ++ (words (get_or p.sources k 0 ∷ get_or p.targets k 0 ∷ [])
    ++ bytes 8 (get_or p.delays k 0))

-- Direct and transitive row: source u32, zero u32, delay u64.
unfoldable pub source_row : Source → List ℕ
source_row s = words (s.source ∷ 0 ∷ []) ++ bytes 8 s.delay

-- Downstream row: u32.
unfoldable pub target_row : ℕ → List ℕ
target_row t = bytes 4 t

-- counts of direct, transitive, downstream rows
unfoldable pub direct_count : Plan → ℕ
direct_count p = first_of (direct_sources p) p.members

unfoldable pub transitive_count : Plan → ℕ
transitive_count p = first_of (transitive_sources p) p.members

unfoldable pub downstream_count : Plan → ℕ
downstream_count p = first_of (downstream p) p.members

-- where the edges, the direct, transitive and downstream rows start, and the end, of tables of so many rows
abbrev pub edges_at : ℕ → ℕ
edges_at n = header + member_width * n

abbrev pub direct_at : ℕ → ℕ → ℕ
direct_at n e = edges_at n + edge_width * e

abbrev pub transitive_at : ℕ → ℕ → ℕ → ℕ
transitive_at n e d = direct_at n e + source_width * d

abbrev pub downstream_at : ℕ → ℕ → ℕ → ℕ → ℕ
downstream_at n e d t = transitive_at n e d + source_width * t

abbrev pub end_at : ℕ → ℕ → ℕ → ℕ → ℕ → ℕ
end_at n e d t w = downstream_at n e d t + target_width * w

-- version 1; counts of members, edges, direct, transitive, downstream rows; their five offsets; total
unfoldable pub header_of : ℕ → ℕ → ℕ → ℕ → ℕ → List ℕ
header_of n e d t w =
    words
    (1
    ∷ n
    ∷ e
    ∷ d
    ∷ t
    ∷ w
    ∷ header
    ∷ edges_at n
    ∷ direct_at n e
    ∷ transitive_at n e d
    ∷ downstream_at n e d t
    ∷ end_at n e d t w
    ∷ [])

-- the compiled total
unfoldable pub total_of : Plan → ℕ
total_of p = end_at p.members p.edges (direct_count p) (transitive_count p) (downstream_count p)

-- the five tables
unfoldable pub member_table : Plan → List ℕ
member_table p = laid (member_row p) (up_to p.members)

unfoldable pub edge_table : Plan → List ℕ
edge_table p = laid (edge_row p) (up_to p.edges)

unfoldable pub direct_table : Plan → List ℕ
direct_table p = laid source_row (gathered (direct_sources p) p.members)

unfoldable pub transitive_table : Plan → List ℕ
transitive_table p = laid source_row (gathered (transitive_sources p) p.members)

unfoldable pub downstream_table : Plan → List ℕ
downstream_table p = laid target_row (gathered (downstream p) p.members)

-- Compiled plan: twelve u32, then the tables in that order, without gaps.
unfoldable pub image_of : Plan → List ℕ
image_of p =
    header_of p.members p.edges (direct_count p) (transitive_count p) (downstream_count p)
    ++ (member_table p
    ++ (edge_table p
    ++ (direct_table p
    ++ (transitive_table p
    ++ downstream_table p))))

-- The compiled plan by plain offsets: what stands at each place of its bytes.
-- Assumes nothing.
use Rattle.std.specs.Prelude.{ℕ, ◌+◌, ◌*◌, ◌<◌, ◌≤◌, ◌≡◌, List, length}
use Rattle.basis.specs.Numbers.{number_at}

-- bytes of the header, of a member row, of an edge, of a direct or transitive row, of a downstream row
abbrev pub header_size : ℕ
header_size = 48

abbrev pub member_size : ℕ
member_size = 40

abbrev pub edge_size : ℕ
edge_size = 24

abbrev pub source_size : ℕ
source_size = 16

abbrev pub target_size : ℕ
target_size = 4

-- "counts of members, edges, direct, transitive, downstream rows"
abbrev pub members : List ℕ → ℕ
members b = number_at 4 4 b

abbrev pub edges : List ℕ → ℕ
edges b = number_at 4 8 b

abbrev pub directs : List ℕ → ℕ
directs b = number_at 4 12 b

abbrev pub transitives : List ℕ → ℕ
transitives b = number_at 4 16 b

abbrev pub downstreams : List ℕ → ℕ
downstreams b = number_at 4 20 b

-- "then the tables in that order, without gaps": where each starts, and the end
abbrev pub edges_at : List ℕ → ℕ
edges_at b = header_size + member_size * members b

abbrev pub directs_at : List ℕ → ℕ
directs_at b = edges_at b + edge_size * edges b

abbrev pub transitives_at : List ℕ → ℕ
transitives_at b = directs_at b + source_size * directs b

abbrev pub downstreams_at : List ℕ → ℕ
downstreams_at b = transitives_at b + source_size * transitives b

abbrev pub total : List ℕ → ℕ
total b = downstreams_at b + target_size * downstreams b

-- the number of k bytes at an offset in row i of a table: its place, the size of its rows
unfoldable pub field : (k place size offset i : ℕ) → List ℕ → ℕ
field k place size offset i b = number_at k (place + size * i + offset) b

-- "Member row, 40 bytes: id u64; u32 capacity, then first row and row count for direct, transitive, downstream; u32 zero."
abbrev pub member_id : List ℕ → ℕ → ℕ
member_id b i = field 8 header_size member_size 0 i b

abbrev pub capacity : List ℕ → ℕ → ℕ
capacity b i = field 4 header_size member_size 8 i b

abbrev pub direct_first : List ℕ → ℕ → ℕ
direct_first b i = field 4 header_size member_size 12 i b

abbrev pub direct_count : List ℕ → ℕ → ℕ
direct_count b i = field 4 header_size member_size 16 i b

abbrev pub transitive_first : List ℕ → ℕ → ℕ
transitive_first b i = field 4 header_size member_size 20 i b

abbrev pub transitive_count : List ℕ → ℕ → ℕ
transitive_count b i = field 4 header_size member_size 24 i b

abbrev pub downstream_first : List ℕ → ℕ → ℕ
downstream_first b i = field 4 header_size member_size 28 i b

abbrev pub downstream_count : List ℕ → ℕ → ℕ
downstream_count b i = field 4 header_size member_size 32 i b

abbrev pub member_zero : List ℕ → ℕ → ℕ
member_zero b i = field 4 header_size member_size 36 i b

-- "Edge: id u64, source and target positions u32, delay u64."
abbrev pub edge_id : List ℕ → ℕ → ℕ
edge_id b k = field 8 (edges_at b) edge_size 0 k b

abbrev pub edge_source : List ℕ → ℕ → ℕ
edge_source b k = field 4 (edges_at b) edge_size 8 k b

abbrev pub edge_target : List ℕ → ℕ → ℕ
edge_target b k = field 4 (edges_at b) edge_size 12 k b

abbrev pub edge_delay : List ℕ → ℕ → ℕ
edge_delay b k = field 8 (edges_at b) edge_size 16 k b

-- "Direct and transitive row: source u32, zero u32, delay u64."
abbrev pub direct_source : List ℕ → ℕ → ℕ
direct_source b k = field 4 (directs_at b) source_size 0 k b

abbrev pub direct_zero : List ℕ → ℕ → ℕ
direct_zero b k = field 4 (directs_at b) source_size 4 k b

abbrev pub direct_delay : List ℕ → ℕ → ℕ
direct_delay b k = field 8 (directs_at b) source_size 8 k b

abbrev pub transitive_source : List ℕ → ℕ → ℕ
transitive_source b k = field 4 (transitives_at b) source_size 0 k b

abbrev pub transitive_zero : List ℕ → ℕ → ℕ
transitive_zero b k = field 4 (transitives_at b) source_size 4 k b

abbrev pub transitive_delay : List ℕ → ℕ → ℕ
transitive_delay b k = field 8 (transitives_at b) source_size 8 k b

-- "Downstream row: u32."
abbrev pub downstream_target : List ℕ → ℕ → ℕ
downstream_target b k = field 4 (downstreams_at b) target_size 0 k b

-- the header says where the edges start, and they end within the bytes
abbrev pub Edged : List ℕ → Type 0
Edged b = (number_at 4 28 b ≡ edges_at b) × (edges_at b + edge_size * edges b ≤ length b)

-- every member's rows lie within their table
pub record Within (first count : ℕ → ℕ) (n rows : ℕ) : Type 0 where
  pub at : (i : ℕ) → i < n → first i + count i ≤ rows

-- every row names a member
pub record Names (position : ℕ → ℕ) (rows n : ℕ) : Type 0 where
  pub at : (k : ℕ) → k < rows → position k < n

-- bytes that are laid out as a compiled plan: safe to read by rows
pub record Laid (b : List ℕ) : Type 0 where
  pub whole : length b ≡ total b
  pub few-members : members b ≤ 32
  pub few-edges : edges b ≤ 256
  pub few-directs : directs b ≤ 1024
  pub few-transitives : transitives b ≤ 1024
  pub few-downstreams : downstreams b ≤ 1024
  pub edges-place : number_at 4 28 b ≡ edges_at b
  pub directs-place : number_at 4 32 b ≡ directs_at b
  pub transitives-place : number_at 4 36 b ≡ transitives_at b
  pub downstreams-place : number_at 4 40 b ≡ downstreams_at b
  pub direct-rows : Within (direct_first b) (direct_count b) (members b) (directs b)
  pub transitive-rows : Within (transitive_first b) (transitive_count b) (members b) (transitives b)
  pub downstream-rows : Within (downstream_first b) (downstream_count b) (members b) (downstreams b)
  pub edge-sources : Names (edge_source b) (edges b) (members b)
  pub edge-targets : Names (edge_target b) (edges b) (members b)
  pub direct-sources : Names (direct_source b) (directs b) (members b)
  pub transitive-sources : Names (transitive_source b) (transitives b) (members b)
  pub downstream-targets : Names (downstream_target b) (downstreams b) (members b)
  pub small : (i : ℕ) → i < members b → capacity b i ≤ 32

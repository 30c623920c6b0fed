-- Plan bytes, in: the header and the rows, as values.
-- Assumes nothing.
use Rattle.std.specs.Prelude.{ℕ, ◌+◌, ◌*◌, List}
use Rattle.basis.specs.Numbers.{number_at}
use Rattle.plans.specs.declared.Member.{Member}
use Rattle.plans.specs.declared.Edge.{Edge}

-- bytes of the header, of a member row, of an edge row
abbrev pub header : ℕ
header = 24

abbrev pub member_row : ℕ
member_row = 16

abbrev pub edge_row : ℕ
edge_row = 32

-- Bounds: 32 members, 256 edges, 32 in-transit tags a member
abbrev pub member_limit : ℕ
member_limit = 32

abbrev pub edge_limit : ℕ
edge_limit = 256

abbrev pub capacity_limit : ℕ
capacity_limit = 32

-- Header of six u32: version 1, members n, edges e, member offset 24, edge offset 24+16n, total 24+16n+32e.
abbrev pub version : List ℕ → ℕ
version b = number_at 4 0 b

abbrev pub member_count : List ℕ → ℕ
member_count b = number_at 4 4 b

abbrev pub edge_count : List ℕ → ℕ
edge_count b = number_at 4 8 b

abbrev pub member_offset : List ℕ → ℕ
member_offset b = number_at 4 12 b

abbrev pub edge_offset : List ℕ → ℕ
edge_offset b = number_at 4 16 b

abbrev pub total : List ℕ → ℕ
total b = number_at 4 20 b

-- where the edge rows of n members start
abbrev pub edges_from : ℕ → ℕ
edges_from n = header + member_row * n

-- where a plan of n members and e edges ends
abbrev pub end_of : ℕ → ℕ → ℕ
end_of n e = edges_from n + edge_row * e

-- Member row: id u64, in-transit capacity u32, zero u32.
abbrev pub member_from : ℕ → List ℕ → ℕ → Member
member_from at b k =
    record {
      id = number_at 8 (at + member_row * k) b;
      capacity = number_at 4 (at + member_row * k + 8) b;
      zero = number_at 4 (at + member_row * k + 12) b;
    }

unfoldable pub member_at : List ℕ → ℕ → Member
member_at b k = member_from header b k

-- Edge row: id, source id, target id, delay, u64 each.
unfoldable pub edge_from : ℕ → List ℕ → ℕ → Edge
edge_from at b k =
    record {
      id = number_at 8 (at + edge_row * k) b;
      source = number_at 8 (at + edge_row * k + 8) b;
      target = number_at 8 (at + edge_row * k + 16) b;
      delay = number_at 8 (at + edge_row * k + 24) b;
    }

abbrev pub edge_at : List ℕ → ℕ → Edge
edge_at b k = edge_from (edges_from (member_count b)) b k

-- the ids, row by row
abbrev pub member_id : List ℕ → ℕ → ℕ
member_id b k = (member_at b k).id

abbrev pub edge_id : ℕ → List ℕ → ℕ → ℕ
edge_id at b k = (edge_from at b k).id

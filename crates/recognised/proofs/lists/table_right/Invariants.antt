use Rattle.std.proofs.Common.{ℕ, List, map, ◌≤◌, ◌+◌}
use Rattle.rows.specs.Rows.{field}
use Rattle.delays.specs.Lists.{passing}
use Rattle.delays.specs.Cells.{grid}
use Rattle.recognised.proofs.Walks.{Parts}
use Rattle.recognised.proofs.lists.table_right.Given as goal

abbrev pub invariant-loop-t : goal.invariant-loop-t
invariant-loop-t g l = (l.k ≤ l.rows) × Parts l.plan (λ (xs : List ℕ). xs) l.place g.L.Listing.size l.rows (λ (x : ℕ). field 4 48 40 l.offset x l.plan) (λ (x : ℕ). field 4 48 40 (l.offset + 4) x l.plan) (λ (x : ℕ). map (g.L.Listing.bytes (grid l.m.kinds l.m.values) x) (passing (g.L.Listing.listed (grid l.m.kinds l.m.values) x) l.n)) l.n l.t l.k

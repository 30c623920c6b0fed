use Rattle.std.proofs.Common.{◌≤◌, ◌+◌, ◌*◌}
use Rattle.delays.specs.Cells.{grid}
use Rattle.recognised.specs.Walks.{Whole}
use Rattle.recognised.proofs.lists.list_right.Given as goal

abbrev pub invariant-loop-x : goal.invariant-loop-x
invariant-loop-x g l = (l.q ≤ l.c) × Whole l.plan (l.place + g.L.Listing.size * l.k) (g.L.Listing.bytes (grid l.m.kinds l.m.values) l.t) (g.L.Listing.listed (grid l.m.kinds l.m.values) l.t) l.x l.q

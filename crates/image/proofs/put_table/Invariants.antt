use Rattle.std.proofs.Common.{ℕ}
use Rattle.image.specs.Image.{gathered}
use Rattle.image.specs.Writing.{listed_bytes}
use Rattle.image.proofs.Puts.{Going}
use Rattle.image.proofs.put_table.Given as goal

abbrev pub invariant-loop-t : goal.invariant-loop-t
invariant-loop-t g l = Going l.at (λ (t : ℕ). gathered (listed_bytes (g.L.Listing.listed l.m.kinds t) (g.L.Listing.bytes l.m.kinds l.m.values t)) l.n) l.n l.t l.initial.out l.out l.next

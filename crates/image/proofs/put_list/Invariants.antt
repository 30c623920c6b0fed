use Rattle.image.specs.Writing.{listed_bytes}
use Rattle.image.proofs.Puts.{Going}
use Rattle.image.proofs.put_list.Given as goal

abbrev pub invariant-loop-s : goal.invariant-loop-s
invariant-loop-s g l = Going l.at (listed_bytes (g.L.Listing.listed l.m.kinds l.t) (g.L.Listing.bytes l.m.kinds l.m.values l.t)) l.n l.s l.initial.out l.out l.next

use Rattle.image.specs.Writing.{edge_in}
use Rattle.image.proofs.Puts.{Going}
use Rattle.image.proofs.put_edges.Given as goal

abbrev pub invariant-loop-k : goal.invariant-loop-k
invariant-loop-k l = Going l.at (edge_in l.p.routes l.p.sources l.p.targets l.p.delays) l.p.edges l.k l.initial.out l.out l.next

use Rattle.delays.specs.Cells.{Closed}
use Rattle.delays.proofs.Matrix.close.Given as goal

abbrev pub invariant-loop-k : goal.invariant-loop-k
invariant-loop-k l = Closed l.initial.self.kinds l.initial.self.values l.self.kinds l.self.values l.n l.k

use Rattle.delays.specs.Cells.{Rounded}
use Rattle.delays.proofs.Matrix.round.Given as goal

abbrev pub invariant-loop-s : goal.invariant-loop-s
invariant-loop-s l = Rounded l.initial.self.kinds l.initial.self.values l.self.kinds l.self.values l.k l.n l.s

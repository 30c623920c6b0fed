use Rattle.delays.specs.Cells.{Rowed}
use Rattle.delays.proofs.Matrix.row.Given as goal

abbrev pub invariant-loop-t : goal.invariant-loop-t
invariant-loop-t l = Rowed l.initial.self.kinds l.initial.self.values l.self.kinds l.self.values l.k l.s l.t

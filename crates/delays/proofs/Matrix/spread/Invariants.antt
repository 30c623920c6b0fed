use Rattle.delays.specs.Cells.{Spread}
use Rattle.delays.proofs.Matrix.spread.Given as goal

abbrev pub invariant-loop-i : goal.invariant-loop-i
invariant-loop-i l = Spread l.p.sources l.p.targets l.p.delays l.i l.self.kinds l.self.values

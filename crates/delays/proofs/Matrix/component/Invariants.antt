use Rattle.std.proofs.Common.{◌≡◌}
use Rattle.delays.specs.Cells.{grid}
use Rattle.delays.specs.Refusals.{component_of}
use Rattle.delays.proofs.Matrix.component.Given as goal

abbrev pub invariant-loop-j : goal.invariant-loop-j
invariant-loop-j l = l.mask ≡ component_of (grid l.self.kinds l.self.values) l.j l.i

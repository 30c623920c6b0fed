use Rattle.std.proofs.Common.{ℕ}
use Rattle.delays.specs.Graph.{plus}
use Rattle.delays.specs.Cells.{grid}
use Rattle.recognised.specs.Steps.{rest}
use Rattle.recognised.specs.Cells.{Swept}
use Rattle.recognised.proofs.pairs.sweep.Given as goal

abbrev pub invariant-loop-t : goal.invariant-loop-t
invariant-loop-t l = Swept l.initial.m.kinds l.initial.m.values l.m.kinds l.m.values l.s (λ (x : ℕ). plus l.w (rest (grid l.claimed.kinds l.claimed.values) l.u x)) l.t

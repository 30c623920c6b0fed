use Rattle.std.proofs.Common.{◌≡◌, ◌-◌, ltb}
use Rattle.delays.specs.Cells.{grid}
use Rattle.delays.specs.Search.{first}
use Rattle.delays.specs.Refusals.{far_target, far_source}
use Rattle.delays.proofs.Matrix.far_refusal.Given as goal

abbrev pub invariant-loop-s : goal.invariant-loop-s
invariant-loop-s l = first (λ x. ltb (far_target (grid l.self.kinds l.self.values) l.n x) l.n) l.s (l.n - l.s) ≡ far_source (grid l.self.kinds l.self.values) l.n

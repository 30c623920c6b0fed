use Rattle.std.proofs.Common.{◌≡◌, length, replicate}
use Rattle.delays.specs.Cells.{grid}
use Rattle.routes.specs.Paths.{marks_of, Marked}
use Rattle.routes.proofs.marking.mark_all.Given as goal

abbrev pub invariant-loop-i : goal.invariant-loop-i
invariant-loop-i l = (length l.marks ≡ 256) × Marked l.plan.sources l.plan.targets l.plan.delays l.i (grid l.minima.kinds l.minima.values l.from) l.from (replicate 256 0) (marks_of l.marks)

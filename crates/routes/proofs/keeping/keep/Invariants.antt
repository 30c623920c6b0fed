use Rattle.std.proofs.Common.{◌≡◌, length, replicate}
use Rattle.delays.specs.Cells.{grid}
use Rattle.routes.specs.Trails.{kept_of, Keeping}
use Rattle.routes.proofs.keeping.keep.Given as goal

abbrev pub invariant-loop-i : goal.invariant-loop-i
invariant-loop-i l = (length l.kept ≡ 256) × Keeping l.plan.targets l.plan.delays l.i (grid l.minima.kinds l.minima.values) l.home (replicate 256 0) (kept_of l.kept)

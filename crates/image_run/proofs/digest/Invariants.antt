use Rattle.std.proofs.Common.{◌<◌}
use Rattle.image_run.proofs.digest.Given as goal

abbrev pub invariant-loop-x : goal.invariant-loop-x
invariant-loop-x l = l.sum < 1000003

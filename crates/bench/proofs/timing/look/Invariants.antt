use Rattle.std.proofs.Common.{◌≤◌, length}
use Rattle.bench.proofs.timing.look.Given as goal

abbrev pub invariant-loop : goal.invariant-loop
invariant-loop g l = l.size ≤ length l.plan

use Rattle.rows.specs.Plans.{plan_in}
use Rattle.delays.specs.Graph.{direct}
use Rattle.recognised.specs.Cells.{Covers}
use Rattle.recognised.proofs.lists.direct_delays.Given as goal

abbrev pub invariant-loop-k : goal.invariant-loop-k
invariant-loop-k l = Covers l.m.kinds l.m.values 32 (direct (plan_in l.plan).sources (plan_in l.plan).targets (plan_in l.plan).delays l.k)

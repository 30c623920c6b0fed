use Rattle.rows.specs.Plans.{plan_in}
use Rattle.delays.specs.Cells.{grid}
use Rattle.recognised.specs.Steps.{step}
use Rattle.recognised.specs.Cells.{Covers}
use Rattle.recognised.proofs.pairs.steps.Given as goal

abbrev pub invariant-loop-k : goal.invariant-loop-k
invariant-loop-k l = Covers l.m.kinds l.m.values l.n (step (plan_in l.plan).sources (plan_in l.plan).targets (plan_in l.plan).delays (grid l.claimed.kinds l.claimed.values) l.k)

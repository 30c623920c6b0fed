use Rattle.rows.specs.Plans.{plan_in}
use Rattle.recognised.specs.Steps.{step}
use Rattle.recognised.specs.Words.{table, Says}
use Rattle.recognised.proofs.plain.passes.Given as goal

abbrev pub invariant-loop-k : goal.invariant-loop-k
invariant-loop-k l = Says l.out l.n (step (plan_in l.plan).sources (plan_in l.plan).targets (plan_in l.plan).delays (table l.words) l.k)

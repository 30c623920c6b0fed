use Rattle.std.proofs.Common.{arith}
use Rattle.std.proofs.lemmas.Bool.Decides.{nat_tests}
use Rattle.routes.specs.Closed.{goes_on}
use Rattle.routes.proofs.circle.goes_on.Goals as goal

pub returns-then-plan-i-eq0 : goal.returns-then-plan-i-eq0
unfolding goes_on
returns-then-plan-i-eq0 c = grind (arith, nat_tests)

pub returns-else-plan-i-eq0 : goal.returns-else-plan-i-eq0
unfolding goes_on
returns-else-plan-i-eq0 c = grind (arith, nat_tests)

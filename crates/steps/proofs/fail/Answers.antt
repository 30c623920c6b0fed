use Rattle.std.proofs.Common.{rules}
use Rattle.steps.specs.Steps.{failed_in}
use Rattle.steps.proofs.fail.Goals as goal

pub returns : goal.returns
unfolding failed_in
returns c = search rules

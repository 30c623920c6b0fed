use Rattle.std.proofs.Common.{rules}
use Rattle.steps.specs.Steps.{welcome_in}
use Rattle.steps.proofs.welcome.Goals as goal

pub returns-then-all_joined : goal.returns-then-all_joined
unfolding welcome_in
returns-then-all_joined c = search rules

pub returns : goal.returns
unfolding welcome_in
returns c = search rules

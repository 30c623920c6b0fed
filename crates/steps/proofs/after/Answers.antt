use mathlib.Core.Path.{sym, ◌∙◌}
use Rattle.basis.specs.Choice.{chosen, passed}
use Rattle.steps.specs.Steps.{after_in}
use Rattle.steps.proofs.Below.{fewer-below}
use Rattle.steps.proofs.after.Goals as goal

pub returns-then-is_hello : goal.returns-then-is_hello
unfolding after_in
returns-then-is_hello c = chosen _ _ _ _ (sym c.is_hello.ensures ∙ c.if-is_hello.true) (rw c.members.ensures at c.welcome.ensures)

pub follow-requires : goal.follow-requires
follow-requires c = (c.requires.0.laid, c.requires.0.mild, c.requires.1, fewer-below _ c.requires.0.ordered _ c.requires.1, c.requires.2, c.requires.3)

pub returns : goal.returns
unfolding after_in
returns c = passed _ _ _ _ (sym c.is_hello.ensures ∙ c.if-is_hello.false) c.follow.ensures.page

use Rattle.std.proofs.Common.{refl, sym, ◌∙◌}
use Rattle.delays.specs.Refusals.{linked_by}
use Rattle.delays.proofs.Matrix.linked.Goals as goal

pub returns-then-no_delay : goal.returns-then-no_delay
unfolding linked_by
returns-then-no_delay c = c.no_delay-then-no_delay.ensures ∙ rw (sym c.no_delay.ensures ∙ c.if-no_delay.true) refl

pub returns-else-no_delay : goal.returns-else-no_delay
unfolding linked_by
returns-else-no_delay c = rw (c.if-no_delay.false, sym c.no_delay.ensures ∙ c.if-no_delay.false) refl

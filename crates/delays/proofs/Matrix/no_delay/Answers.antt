use Rattle.std.proofs.Common.{sym, ◌∙◌}
use Rattle.delays.proofs.Cells.{zero-near, zero-not}
use Rattle.delays.proofs.Matrix.no_delay.Goals as goal

pub returns-in-At : goal.returns-in-At
returns-in-At c = zero-near _ _ (sym c.reach.ensures ∙ c.in-At.is)

pub returns-in_default : goal.returns-in_default
returns-in_default c = zero-not _ (λ d e. c.in_default.not-At d (c.reach.ensures ∙ e))

use Rattle.std.proofs.Common.{sym, ◌∙◌}
use Rattle.delays.proofs.Cells.{far-seen, far-not}
use Rattle.delays.proofs.Matrix.too_far.Goals as goal

pub returns-in-TooFar : goal.returns-in-TooFar
returns-in-TooFar c = far-seen _ (sym c.reach.ensures ∙ c.in-TooFar.is)

pub returns-in_default : goal.returns-in_default
returns-in_default c = far-not _ (λ e. c.in_default.not-TooFar (c.reach.ensures ∙ e))

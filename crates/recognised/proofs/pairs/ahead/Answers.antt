use Rattle.std.proofs.Common.{arith, ◌∙◌}
use Rattle.delays.specs.Cells.{grid}
use Rattle.recognised.proofs.Cells.{rest-there, rest-ahead}
use Rattle.recognised.proofs.pairs.ahead.Goals as goal

pub returns-then-u-t : goal.returns-then-u-t
returns-then-u-t c = rest-there _ _ _ (omega arith)

pub returns-else-u-t : goal.returns-else-u-t
unfolding grid
returns-else-u-t c = c.get.ensures.number ∙ rest-ahead (grid c.args.claimed.now.kinds c.args.claimed.now.values) c.args.u c.args.t (omega arith)

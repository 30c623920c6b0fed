use Rattle.std.proofs.Common.{arith}
use Rattle.delays.specs.Cells.{grid}
use Rattle.recognised.proofs.Cells.{seen-at, not-at, onward-yes, onward-no}
use Rattle.recognised.proofs.lists.TargetsListing.lists.Goals as goal

pub returns-in-At : goal.returns-in-At
unfolding grid
returns-in-At c = onward-yes (grid c.args.m.now.kinds c.args.m.now.values) c.args.s c.args.t c.if-t-s.true (seen-at _ _ c.in-At.ensures.view).1

pub returns-in_default : goal.returns-in_default
unfolding grid
returns-in_default c = onward-no (grid c.args.m.now.kinds c.args.m.now.values) c.args.s c.args.t (omega (arith, c.get.ensures.number, not-at c.get.result c.in_default.not-At))

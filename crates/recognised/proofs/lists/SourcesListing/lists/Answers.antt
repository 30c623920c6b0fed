use Rattle.std.proofs.Common.{arith, sym}
use borrow.Author.Tests.{lt-ltb, le-ltb}
use Rattle.delays.specs.Cells.{grid}
use Rattle.recognised.proofs.Cells.{seen-at, not-at}
use Rattle.recognised.proofs.lists.SourcesListing.lists.Goals as goal

pub returns-in-At : goal.returns-in-At
unfolding grid
returns-in-At c = sym (lt-ltb _ _ (seen-at _ _ c.in-At.ensures.view).1)

pub returns-in_default : goal.returns-in_default
unfolding grid
returns-in_default c = sym (le-ltb _ _ (omega (arith, c.get.ensures.number, not-at c.get.result c.in_default.not-At)))

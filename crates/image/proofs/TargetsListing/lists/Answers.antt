use borrow.Author.Tests.{eq-eqb, ne_eqb}
use Rattle.image.specs.Writing.{held, onward}
use Rattle.image.proofs.TargetsListing.lists.Goals as goal

pub returns-then-t-s : goal.returns-then-t-s
unfolding onward held
returns-then-t-s c = simp (ne_eqb _ _ c.if-t-s.true)

pub returns-else-t-s : goal.returns-else-t-s
unfolding onward held
returns-else-t-s c = simp (eq-eqb _ _ c.if-t-s.false)

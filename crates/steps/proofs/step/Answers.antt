use Rattle.states.specs.Steps.{step}
use Rattle.members.specs.Codes.{session_of}
use Rattle.members.proofs.Typed.{typed}
use borrow.Author.Tests.{lt-ltb, le-ltb}
use Rattle.steps.proofs.Ties.{over-leaves}
use Rattle.steps.proofs.step.Goals as goal

pub returns-then-s-gt0 : goal.returns-then-s-gt0
unfolding step session_of
returns-then-s-gt0 c = rw (lt-ltb _ _ c.if-s-gt0.true) (over-leaves _ c.requires.0 c.args.s _ c.requires.1 (typed c.args.s _ c.well_formed.1.0) _ _ _ _ c.over.ensures)

pub returns : goal.returns
unfolding step session_of
returns c = rw (le-ltb _ _ c.if-s-gt0.false) c.answer.ensures

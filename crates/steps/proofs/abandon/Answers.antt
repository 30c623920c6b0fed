use Rattle.members.proofs.Typed.{typed}
use Rattle.steps.proofs.Ties.{abandon-leaves}
use Rattle.steps.proofs.abandon.Goals as goal

pub returns : goal.returns
returns c = abandon-leaves _ c.requires.0 c.args.s _ c.requires.1 (typed c.args.s _ c.well_formed.1.0) _ _ _ _ _ _ c.aborted-t.ensures c.members.ensures (rw c.code_said.ensures at c.fail_all.ensures.page)

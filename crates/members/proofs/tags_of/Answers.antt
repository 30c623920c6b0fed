use Rattle.std.proofs.Common.{refl}
use Rattle.members.specs.Rules.{tags_to}
use Rattle.members.proofs.Steps.{tags-more}
use Rattle.members.proofs.tags_of.Goals as goal

pub loop-i-init : goal.loop-i-init
unfolding tags_to
loop-i-init g c f h = refl

pub loop-i-preserved : goal.loop-i-preserved
loop-i-preserved g c f h = tags-more f _ _ _ (c.loop-i.invariant f h) (h _ _ c.loop-i-test.true c.tag.ensures)

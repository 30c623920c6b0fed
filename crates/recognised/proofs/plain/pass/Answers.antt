use Rattle.std.proofs.Common.{arith}
use Rattle.recognised.specs.Words.{table}
use Rattle.recognised.proofs.Words.{put_same, brief-sum}
use Rattle.recognised.proofs.plain.pass.Goals as goal

pub overflow_add-x-2 : goal.overflow_add-x-2
overflow_add-x-2 c = omega (arith, c.requires.4.most)

pub returns : goal.returns
unfolding table
returns c = put_same _ _ _ _ _ c.put.ensures (brief-sum _ _ (omega arith) c.requires.4)

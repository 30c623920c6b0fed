use Rattle.std.proofs.Common.{arith}
use Rattle.recognised.proofs.Words.{put_word}
use Rattle.recognised.proofs.plain.put.Goals as goal

pub returns : goal.returns
returns c = put_word c.args.out.now c.args.p c.args.x _ (omega arith) (omega arith) (omega arith) (omega arith)

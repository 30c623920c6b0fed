use Rattle.std.proofs.Common.{rules, arith}
use Rattle.basis.proofs.Numbers.{put-replaced}
use Rattle.basis.proofs.write_u64.Goals as goal

pub returns : goal.returns
returns c = put-replaced 8 c.args.v c.args.at _ c.args.b.now _ (omega arith) (search rules)

use Rattle.std.proofs.Common.{arith}
use Rattle.recognised.specs.Words.{table}
use Rattle.recognised.proofs.Words.{passed-edge}
use Rattle.recognised.proofs.plain.pass_edge.Goals as goal

pub returns : goal.returns
returns c = passed-edge _ _ _ (table c.args.words.now) c.args.s c.args.u c.args.w c.args.n (omega arith) (omega arith) c.put.ensures c.pass_row.ensures

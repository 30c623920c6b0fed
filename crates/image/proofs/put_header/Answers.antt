use Rattle.std.proofs.Common.{arith}
use Rattle.image.specs.Image.{header_of}
use Rattle.image.proofs.Rows.{length-header}
use Rattle.image.proofs.put_header.Goals as goal

pub put_words-requires : goal.put_words-requires
unfolding header_of
put_words-requires c = (omega (arith, length-header c.args.n c.args.e c.args.rows.direct c.args.rows.transitive c.args.rows.downstream), (omega arith, (omega arith, (omega arith, (omega arith, (omega arith, (omega arith, (omega arith, (omega arith, (omega arith, (omega arith, (omega arith, (omega arith, (tt))))))))))))))

pub returns : goal.returns
unfolding header_of
returns c = c.put_words.ensures

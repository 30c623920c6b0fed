use Rattle.std.proofs.Common.{arith}
use Rattle.image.specs.Image.{target_row}
use Rattle.image.proofs.Rows.{length-target}
use Rattle.image.proofs.TargetsListing.put.Goals as goal

pub put_u32-requires : goal.put_u32-requires
put_u32-requires c = (omega (arith, length-target c.args.t), omega arith)

pub returns : goal.returns
unfolding target_row
returns c = c.put_u32.ensures

use native.Mathlib.Omega.{arith}
use Rattle.basis.proofs.Numbers.{length-bytes}
use Rattle.image.proofs.put_u32.Goals as goal

pub returns : goal.returns
returns c = record { placed = c.write_u32.ensures; past = omega (arith, length-bytes 4 c.args.v) }

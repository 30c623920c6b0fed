use native.Mathlib.Omega.{arith}
use Rattle.basis.proofs.Numbers.{length-bytes}
use Rattle.image.proofs.put_u64.Goals as goal

pub returns : goal.returns
returns c = record { placed = c.write_u64.ensures; past = omega (arith, length-bytes 8 c.args.v) }

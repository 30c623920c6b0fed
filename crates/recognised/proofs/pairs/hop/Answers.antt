use Rattle.std.proofs.Common.{arith}
use Rattle.recognised.proofs.Cells.{hopped}
use Rattle.recognised.proofs.pairs.hop.Goals as goal

pub returns : goal.returns
returns c = hopped _ _ _ _ _ _ _ _ _ c.lower.ensures c.sum-d.ensures c.ahead.ensures (omega arith)

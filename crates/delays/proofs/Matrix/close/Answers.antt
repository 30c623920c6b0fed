use Rattle.std.proofs.Common.{arith}
use Rattle.delays.proofs.Rounds.{holds-none, holds_more}
use Rattle.delays.proofs.Matrix.close.Goals as goal

pub loop-k-init : goal.loop-k-init
loop-k-init c = holds-none _ _ _

pub loop-k-preserved : goal.loop-k-preserved
loop-k-preserved c = holds_more _ _ _ _ _ _ _ _ (omega arith) c.loop-k.invariant c.round.ensures

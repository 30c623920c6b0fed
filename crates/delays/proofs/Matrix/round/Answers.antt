use Rattle.std.proofs.Common.{arith}
use Rattle.delays.proofs.Rounds.{none_yet, turn}
use Rattle.delays.proofs.Matrix.round.Goals as goal

pub loop-s-init : goal.loop-s-init
loop-s-init c = none_yet _ _ _ _

pub loop-s-preserved : goal.loop-s-preserved
loop-s-preserved c = turn _ _ c.args.k _ _ c.args.n c.loop-s.s c.loop-s.invariant (omega arith) (omega arith) _ _ c.row.ensures

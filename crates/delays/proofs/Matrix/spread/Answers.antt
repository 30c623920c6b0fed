use Rattle.std.proofs.Common.{arith, refl}
use Rattle.delays.proofs.Cells.{cleared_of}
use Rattle.delays.proofs.Rounds.{edges_none, edges_more}
use Rattle.delays.proofs.Matrix.spread.Goals as goal

pub loop-i-init : goal.loop-i-init
loop-i-init c = edges_none _ _ _ _ _ (cleared_of _ _ refl refl)

pub loop-i-preserved : goal.loop-i-preserved
loop-i-preserved c = edges_more _ _ _ _ _ _ _ c.loop-i.i (omega (arith, c.requires.to c.loop-i.i)) c.loop-i.invariant c.offer_edge.ensures

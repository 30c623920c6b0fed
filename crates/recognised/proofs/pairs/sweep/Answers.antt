use Rattle.std.proofs.Common.{◌≡◌, arith}
use Rattle.recognised.proofs.Cells.{swept_none, swept_more}
use Rattle.recognised.proofs.pairs.sweep.Goals as goal

pub loop-t-init : goal.loop-t-init
loop-t-init c = swept_none _ _ _ _

pub loop-t-preserved : goal.loop-t-preserved
loop-t-preserved c = swept_more _ _ _ _ _ _ _ _ _ c.loop-t.invariant c.hop.ensures

pub returns : goal.returns
returns c = let e : c.args.n ≡ c.loop-t.t = omega arith in rw e c.loop-t.invariant

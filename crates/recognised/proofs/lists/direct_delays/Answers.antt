use Rattle.std.proofs.Common.{◌≡◌, arith}
use Rattle.recognised.proofs.Matrix.{direct-none, direct-more}
use Rattle.recognised.proofs.lists.direct_delays.Goals as goal

pub loop-k-init : goal.loop-k-init
loop-k-init c = direct-none _ _ _ _ _ c.requires.2

pub loop-k-preserved : goal.loop-k-preserved
loop-k-preserved c = direct-more c.args.plan.now c.requires.0 _ _ _ _ c.loop-k.k (omega arith) c.loop-k.invariant c.direct_edge.ensures

pub returns : goal.returns
returns c = let e : c.args.e ≡ c.loop-k.k = omega arith in rw e c.loop-k.invariant

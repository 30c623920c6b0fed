use Rattle.std.proofs.Common.{◌≡◌, arith}
use Rattle.delays.specs.Cells.{grid}
use Rattle.recognised.proofs.Cells.{covers-none, covers-edge}
use Rattle.recognised.proofs.pairs.steps.Goals as goal

pub loop-k-init : goal.loop-k-init
loop-k-init c = covers-none _ _ _ _ _ _ _ (omega (arith, c.requires.0.header.few)) c.requires.3

pub loop-k-preserved : goal.loop-k-preserved
loop-k-preserved c = covers-edge c.args.plan.now c.requires.0.header (grid c.args.claimed.now.kinds c.args.claimed.now.values) c.args.n (omega (arith, c.requires.0.header.few)) _ _ _ _ c.loop-k.k (omega arith) c.loop-k.invariant c.edge.ensures

pub returns : goal.returns
returns c = let e : c.args.e ≡ c.loop-k.k = omega arith in rw e c.loop-k.invariant

use Rattle.std.proofs.Common.{◌≡◌, arith}
use Rattle.recognised.specs.Words.{table}
use Rattle.recognised.proofs.Words.{says_none, says-edge}
use Rattle.recognised.proofs.plain.passes.Goals as goal

pub loop-k-init : goal.loop-k-init
loop-k-init c = says_none _ _ _ _ _ _ (omega (arith, c.requires.0.header.few)) c.requires.5

pub pass_at-requires : goal.pass_at-requires
pass_at-requires c = (c.requires.0, omega arith, omega arith, c.requires.3 _ (omega arith), c.requires.4)

pub loop-k-preserved : goal.loop-k-preserved
loop-k-preserved c = says-edge c.args.plan.now c.requires.0.header (table c.args.words.now) c.args.n (omega (arith, c.requires.0.header.few)) _ _ c.loop-k.k (omega arith) c.loop-k.invariant c.pass_at.ensures

pub returns : goal.returns
returns c = let e : c.args.e ≡ c.loop-k.k = omega arith in rw e c.loop-k.invariant

use Rattle.std.proofs.Common.{◌≡◌, arith}
use Rattle.recognised.proofs.Words.{passed_none, passed-more}
use Rattle.recognised.proofs.plain.pass_row.Goals as goal

pub loop-t-init : goal.loop-t-init
loop-t-init c = passed_none _ _ _

pub pass-requires : goal.pass-requires
pass-requires c = (omega arith, omega arith, omega arith, omega arith, c.requires.4.at _ _ (omega arith) (omega arith))

pub loop-t-preserved : goal.loop-t-preserved
loop-t-preserved c = passed-more _ _ _ _ _ _ c.loop-t.invariant c.pass.ensures

pub returns : goal.returns
returns c = let e : c.args.n ≡ c.loop-t.t = omega arith in rw e c.loop-t.invariant

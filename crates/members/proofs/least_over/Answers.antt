use Rattle.std.proofs.Common.{◌≡◌, ◌-◌, arith, refl}
use Rattle.rows.specs.Loops.{over_rows}
use Rattle.members.specs.Rules.{least_in}
use Rattle.members.proofs.Steps.{least-more}
use Rattle.members.proofs.least_over.Goals as goal

pub loop-k-init : goal.loop-k-init
unfolding least_in over_rows
loop-k-init g c f h = let e : c.args.first - c.args.first ≡ 0 = omega arith in rw e refl

pub loop-k-preserved : goal.loop-k-preserved
loop-k-preserved g c f h = least-more f _ _ _ _ _ c.loop-k.auto.k (c.loop-k.invariant f h) (h _ _ c.row.ensures) c.least-x.ensures

use Rattle.std.proofs.Common.{◌≡◌, ◌-◌, arith, refl}
use Rattle.rows.specs.Loops.{over_rows}
use Rattle.members.specs.Rules.{bounds_to, bounds_in}
use Rattle.members.proofs.Steps.{bound-more, bounds-more}
use Rattle.members.proofs.bounds_all.Goals as goal

pub loop-j-init : goal.loop-j-init
unfolding bounds_in
loop-j-init c = refl

pub loop-k-init : goal.loop-k-init
unfolding bounds_to over_rows
loop-k-init c = let n = c.transitive_first-first.result in let e : n - n ≡ 0 = omega arith in rw e refl

pub loop-k-preserved : goal.loop-k-preserved
loop-k-preserved c =
    let source = c.transitive_source-i in
    bound-more _ _ _ _ _ _ _ _ _ _ c.loop-k.auto.k c.transitive_first-first.ensures source.ensures c.transitive_delay.ensures c.loop-k.invariant c.lowered.ensures

pub loop-j-preserved : goal.loop-j-preserved
loop-j-preserved c =
    let first = c.transitive_first-first.result in
    let count = c.transitive_count.result in
    bounds-more _ _ _ _ _ _ c.loop-j.invariant c.loop-k.invariant (omega (arith, c.transitive_count.ensures))

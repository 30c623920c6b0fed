use Rattle.std.proofs.Common.{refl, arith}
use lib.ListN.{length-set}
use Rattle.routes.proofs.Trails.{keeping_none, keeping_kept}
use Rattle.routes.proofs.keeping.keep.Goals as goal

pub loop-i-init : goal.loop-i-init
loop-i-init c = (refl, keeping_none _ _ _ _ _)

pub loop-i-preserved : goal.loop-i-preserved
loop-i-preserved c =
    let F = c.requires.0 in (
      simp length-set c.loop-i.invariant.0,
      keeping_kept _ _ _ _ _ c.loop-i.i c.loop-i.kept c.keeps.result (omega (arith, F.routed)) c.loop-i.invariant.1 (rw c.from.ensures at c.keeps.ensures),
    )

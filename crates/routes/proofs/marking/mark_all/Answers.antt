use Rattle.std.proofs.Common.{refl, arith}
use lib.ListN.{length-set}
use Rattle.routes.proofs.Marks.{marked-none, marked_marks}
use Rattle.routes.proofs.marking.mark_all.Goals as goal

pub loop-i-init : goal.loop-i-init
loop-i-init c = (refl, marked-none _ _ _ _ _ _)

pub loop-i-preserved : goal.loop-i-preserved
loop-i-preserved c =
    let F = c.requires.0 in (
      simp length-set c.loop-i.invariant.0,
      marked_marks _ _ _ _ _ _ c.loop-i.i c.loop-i.marks c.mark_of.result (omega (arith, F.routed)) c.loop-i.invariant.1 (rw (c.from-s.ensures, c.from-t.ensures) at c.mark_of.ensures),
    )

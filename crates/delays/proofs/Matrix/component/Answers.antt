use Rattle.std.proofs.Common.{refl, sym, ◌∙◌, arith}
use Rattle.delays.specs.Search.{mask_of}
use Rattle.delays.specs.Refusals.{component_of}
use Rattle.delays.proofs.Search.{mask-small, bit-fits, mask-on, mask-off}
use Rattle.delays.proofs.Matrix.component.Goals as goal
use Rattle.delays.proofs.Matrix.component.Goals.{then-linked, else-linked}

pub loop-j-init : goal.loop-j-init
unfolding component_of mask_of
loop-j-init c = refl

pub overflow_add-mask : goal.overflow_add-mask
unfolding component_of
overflow_add-mask c = record { fits = bit-fits _ c.loop-j.j (rw c.loop-j.invariant (mask-small _ _)) (omega arith) }

pub loop-j-preserved : goal.loop-j-preserved
unfolding component_of
loop-j-preserved c =
    elim c.if-linked.branch [
      | then-linked w ↦ mask-on _ _ _ _ c.loop-j.invariant (sym c.linked.ensures ∙ w.if-linked.true) (omega arith) w.mask-is
      | else-linked w ↦ mask-off _ _ _ _ c.loop-j.invariant (sym c.linked.ensures ∙ w.if-linked.false) w.mask-is
    ]

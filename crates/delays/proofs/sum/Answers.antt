use Rattle.std.proofs.Common.{◌∙◌, arith}
use Rattle.delays.specs.Graph.{plus}
use Rattle.delays.proofs.Cells.{sum-left, sum-right}
use Rattle.delays.proofs.sum.Goals as goal
use Rattle.delays.proofs.sum.Goals.{in_default-via-in-At+in_default, in_default-via-in_default}

pub returns-in-Some : goal.returns-in-Some
unfolding plus
returns-in-Some c = let e = c.in-Some.ensures in rw (c.in-At-At.is-0, c.in-At-At.is-1) (omega (arith, e))

pub returns-in-None : goal.returns-in-None
unfolding plus
returns-in-None c = let e = c.in-None.ensures in rw (c.in-At-At.is-0, c.in-At-At.is-1) (omega (arith, e))

pub returns-in_default : goal.returns-in_default
returns-in_default c = c.farther.ensures ∙
    elim c.in_default.branch [ in_default-via-in-At+in_default w ↦ sum-right _ _ w.in_default.not-At-1 | in_default-via-in_default w ↦ sum-left _ _ w.in_default.not-At-0 ]

use Rattle.std.proofs.Common.{arith, refl, sym, ◌∙◌}
use Rattle.delays.specs.Cells.{grid}
use Rattle.delays.proofs.Rounds.{row-none, row_more, row-still}
use Rattle.delays.proofs.Matrix.row.Goals as goal

pub returns-in-None : goal.returns-in-None
unfolding grid
returns-in-None c = row-still _ _ c.args.k c.args.s c.args.n (sym c.get-way.ensures.number ∙ rw c.in-None.is refl)

pub loop-t-init : goal.loop-t-init
loop-t-init c = row-none _ _ _ _

pub loop-t-preserved : goal.loop-t-preserved
unfolding grid
loop-t-preserved c =
    row_more _ _ c.args.k _ _ c.args.s c.loop-t.t c.loop-t.invariant (omega arith) _ _ _ _ _ c.sum.ensures c.get-way.ensures.number c.get.ensures.number c.offer.ensures

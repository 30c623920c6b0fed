use Rattle.std.proofs.Common.{arith, sym, ◌∙◌, ltb-true}
use Rattle.delays.proofs.Cells.{put}
use Rattle.delays.proofs.Matrix.offer.Goals as goal

pub returns-then-nearer : goal.returns-then-nearer
returns-then-nearer c =
    let m = c.args.self.now in
    put m.kinds m.values _ _ c.args.p _ (omega arith) (omega arith) c.set.ensures.kinds c.set.ensures.values c.set.ensures.number
    (omega (arith, c.get.ensures.number, ltb-true _ _ (sym c.nearer.ensures ∙ c.if-nearer.true)))

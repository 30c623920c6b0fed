use Rattle.std.proofs.Common.{rules, eqb, true, false, ◌≡◌}
use Rattle.std.proofs.lemmas.Iterator.{first_from_Range}
use Rattle.delays.specs.Graph.{far}
use Rattle.delays.specs.Cells.{grid}
use Rattle.delays.specs.Refusals.{far_target}
use Rattle.delays.proofs.Search.{finds}
use Rattle.delays.proofs.Matrix.far_target.Goals as goal

pub returns : goal.returns
unfolding far_target
returns c =
    let g = grid c.args.self.now.kinds c.args.self.now.values in
    finds (λ i. eqb (g c.args.s i) far) c.args.n _
    (first_from_Range _ _ _ _ (λ i. eqb (g c.args.s i) far ≡ true) (λ i. eqb (g c.args.s i) far ≡ false) c.find.ensures.ran (λ x q k. search rules) (λ x q k. (search rules, search rules)))

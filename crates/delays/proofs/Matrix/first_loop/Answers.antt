use Rattle.std.proofs.Common.{rules, eqb, true, false, ◌≡◌}
use Rattle.std.proofs.lemmas.Iterator.{first_from_Range}
use Rattle.delays.specs.Cells.{grid}
use Rattle.delays.specs.Refusals.{first_loop}
use Rattle.delays.proofs.Search.{finds}
use Rattle.delays.proofs.Matrix.first_loop.Goals as goal

pub returns : goal.returns
unfolding first_loop
returns c =
    let g = grid c.args.self.now.kinds c.args.self.now.values in
    finds (λ i. eqb (g i i) 0) c.args.n _
    (first_from_Range _ _ _ _ (λ i. eqb (g i i) 0 ≡ true) (λ i. eqb (g i i) 0 ≡ false) c.find.ensures.ran (λ x q k. search rules) (λ x q k. (search rules, search rules)))

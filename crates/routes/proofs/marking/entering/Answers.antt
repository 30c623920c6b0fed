use Rattle.std.proofs.Common.{rules, true, false, ◌≡◌}
use Rattle.std.proofs.lemmas.Iterator.{first_from_Range}
use Rattle.delays.proofs.Search.{finds}
use Rattle.routes.specs.Paths.{marks_of, enters}
use Rattle.routes.proofs.marking.entering.Goals as goal

pub returns : goal.returns
returns c =
    let test = enters c.args.plan.now.targets (marks_of c.args.marks.now) c.args.at in
    finds test 256 _
    (first_from_Range _ _ _ _ (λ i. test i ≡ true) (λ i. test i ≡ false) c.find.ensures.ran (λ x q k. search rules) (λ x q k. (search rules, search rules)))

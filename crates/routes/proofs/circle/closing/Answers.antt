use Rattle.std.proofs.Common.{ℕ, ◌≡◌, true, false, get_or, refl, rules, tests}
use Rattle.std.proofs.lemmas.Iterator.{serves_from_Range, cases_from_all, YieldsList-from_range}
use Rattle.routes.specs.Closed.{after, goes_on, closing}
use Rattle.routes.proofs.Every.{all-every}
use Rattle.routes.proofs.circle.closing.Goals as goal

pub all-requires-clause-callable : goal.all-requires-clause-callable
all-requires-clause-callable c = serves_from_Range (λ x q k. search (rules, tests)) (λ x low high. search rules)

pub returns : goal.returns
unfolding closing
returns c =
    let p = c.args.plan.now in
    let es = c.args.walk.edges in
    let n = c.args.walk.count in
    let test = λ (i : ℕ). goes_on p.sources p.targets p.delays p.edges (get_or es i 0) (get_or es (after n i) 0) in
    all-every test n _
    (cases_from_all _ _ _ (λ i. test i ≡ true) (λ i. test i ≡ false) c.all.ensures.ran (YieldsList-from_range 0 n _ refl refl) (λ x q k. search (rules, tests)) (λ x q k. search (rules, tests)))

use Rattle.std.proofs.Common.{rules, tests, ◌≢◌}
use Rattle.delays.specs.Cells.{grid}
use Rattle.recognised.proofs.Cells.{all-tells}
use Rattle.recognised.proofs.pairs.apart.Goals as goal

pub returns : goal.returns
returns c = all-tells _ _ _ (λ i. grid c.args.claimed.now.kinds c.args.claimed.now.values i i ≢ 0) c.all.ensures.ran (λ x q k. search (rules, tests)) (λ x q k. search (rules, tests))

use Rattle.std.proofs.Common.{rules}
use Rattle.delays.specs.Cells.{grid}
use Rattle.recognised.specs.Cells.{Fair}
use Rattle.recognised.proofs.Cells.{all-tells, tells_yes, tells_no}
use Rattle.recognised.proofs.pairs.fair_row.Goals as goal

pub returns : goal.returns
returns c = all-tells _ _ _ (λ t. Fair (grid c.args.m.now.kinds c.args.m.now.values c.args.s t) (grid c.args.claimed.now.kinds c.args.claimed.now.values c.args.s t)) c.all.ensures.ran (λ x q k. search (rules, tells_yes)) (λ x q k. search (rules, tells_no))

use Rattle.std.proofs.Common.{rules}
use Rattle.std.proofs.Common.{◌<◌, ◌≤◌}
use Rattle.delays.specs.Graph.{far}
use Rattle.delays.specs.Cells.{grid}
use Rattle.recognised.specs.Recognised.{limit}
use Rattle.recognised.proofs.Cells.{all-tells, tells_yes, tells_no}
use Rattle.recognised.proofs.claims.short_row.Goals as goal

pub returns : goal.returns
unfolding grid
returns c = all-tells _ _ _ (λ t. grid c.args.m.now.kinds c.args.m.now.values c.args.s t < far → grid c.args.m.now.kinds c.args.m.now.values c.args.s t ≤ limit) c.all.ensures.ran (λ x q k. search (rules, tells_yes)) (λ x q k. search (rules, tells_no))

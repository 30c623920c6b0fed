use Rattle.std.proofs.Common.{rules}
use Rattle.std.proofs.Common.{ℕ, ◌<◌, ◌≤◌}
use Rattle.delays.specs.Graph.{far}
use Rattle.delays.specs.Cells.{grid}
use Rattle.recognised.specs.Recognised.{limit}
use Rattle.recognised.proofs.Cells.{all-tells, tells_yes, tells_no}
use Rattle.recognised.proofs.claims.short_rows.Goals as goal

pub returns : goal.returns
returns c = all-tells _ _ _ (λ s. (t : ℕ) → t < c.args.n → grid c.args.m.now.kinds c.args.m.now.values s t < far → grid c.args.m.now.kinds c.args.m.now.values s t ≤ limit) c.all.ensures.ran (λ x q k. search (rules, tells_yes)) (λ x q k. search (rules, tells_no))

use Rattle.std.proofs.Common.{rules, tests, ◌≤◌}
use Rattle.rows.specs.Rows.{edge_delay}
use Rattle.recognised.specs.Recognised.{limit}
use Rattle.recognised.proofs.Cells.{all-tells}
use Rattle.recognised.proofs.claims.short_edges.Goals as goal

pub returns : goal.returns
returns c = all-tells _ _ _ (λ k. edge_delay c.args.plan.now k ≤ limit) c.all.ensures.ran (λ x q k. search (rules, tests)) (λ x q k. search (rules, tests))

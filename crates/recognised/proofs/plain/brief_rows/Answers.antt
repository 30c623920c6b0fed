use Rattle.std.proofs.Common.{rules, tests, ◌<◌}
use Rattle.rows.specs.Rows.{field}
use Rattle.recognised.specs.Words.{brief}
use Rattle.recognised.proofs.Cells.{all-tells}
use Rattle.recognised.proofs.plain.brief_rows.Goals as goal

pub returns : goal.returns
returns c = (all-tells _ _ _ (λ k. field 8 c.args.place 16 8 k c.args.plan.now < brief) c.all.ensures.ran (λ x q k. search (rules, tests)) (λ x q k. search (rules, tests))).right

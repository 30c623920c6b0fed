use Rattle.std.proofs.Common.{◌∙◌, sym}
use Rattle.rows.specs.Rows.{transitives, transitives_at, transitive_first, transitive_count, downstreams, downstreams_at, downstream_first, downstream_count}
use Rattle.image.specs.Image.{source_row, target_row}
use Rattle.delays.specs.Cells.{grid}
use Rattle.recognised.proofs.Main.{tabled_place}
use Rattle.recognised.proofs.Walks.{sources-told, targets-told}
use Rattle.recognised.proofs.Cells.{tells-same, never}
use Rattle.recognised.proofs.claims.minima_right.Goals as goal

pub returns-then-table_right : goal.returns-then-table_right
returns-then-table_right c = let H = c.requires.0.header in
    let first = tabled_place c.args.plan.now source_row 16 (transitive_first c.args.plan.now) (transitive_count c.args.plan.now) c.args.n _ _ _ (transitives_at c.args.plan.now) _ (transitives c.args.plan.now)
    (c.number-transitives_at.ensures ∙ H.transitive-place) c.number-transitives.ensures
    (sources-told c.args.plan.now _ _ (transitive_first c.args.plan.now) (transitive_count c.args.plan.now) (grid c.args.m.now.kinds c.args.m.now.values) c.args.n _ c.table_right.ensures) in
    let second = tabled_place c.args.plan.now target_row 4 (downstream_first c.args.plan.now) (downstream_count c.args.plan.now) c.args.n _ _ _ (downstreams_at c.args.plan.now) _ (downstreams c.args.plan.now)
    (c.number-downstreams_at.ensures ∙ H.downstream-place) c.number-downstreams.ensures
    (targets-told c.args.plan.now _ _ (downstream_first c.args.plan.now) (downstream_count c.args.plan.now) (grid c.args.m.now.kinds c.args.m.now.values) c.args.n _ c.table_right-then-table_right.ensures) in
    tells-same (λ d. record { minimal = c.stands.ensures.right c.if-not-stands.false; transitive = first.right c.if-table_right.true; downstream = d }) (λ X. X.downstream) second

pub returns-else-table_right : goal.returns-else-table_right
returns-else-table_right c = let H = c.requires.0.header in
    let first = tabled_place c.args.plan.now source_row 16 (transitive_first c.args.plan.now) (transitive_count c.args.plan.now) c.args.n _ _ _ (transitives_at c.args.plan.now) _ (transitives c.args.plan.now)
    (c.number-transitives_at.ensures ∙ H.transitive-place) c.number-transitives.ensures
    (sources-told c.args.plan.now _ _ (transitive_first c.args.plan.now) (transitive_count c.args.plan.now) (grid c.args.m.now.kinds c.args.m.now.values) c.args.n _ c.table_right.ensures) in
    record { right = λ e. never (sym e ∙ c.if-table_right.false); wrong = λ e X. first.wrong e X.transitive }

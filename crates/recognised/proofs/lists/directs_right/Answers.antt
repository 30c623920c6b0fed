use Rattle.std.proofs.Common.{◌∙◌, arith}
use Rattle.rows.specs.Rows.{direct_first, direct_count}
use Rattle.delays.specs.Cells.{grid}
use Rattle.recognised.proofs.Main.{directs-told}
use Rattle.recognised.proofs.Walks.{sources-told}
use Rattle.recognised.proofs.lists.directs_right.Goals as goal

pub direct_delays-requires : goal.direct_delays-requires
direct_delays-requires c = (c.requires.0, c.requires.2, c.requires.3)

pub returns : goal.returns
returns c = let H = c.requires.0.header in
    let m = c.direct_delays.new.m in
    directs-told c.args.plan.now c.args.n c.args.e c.requires.1 c.requires.2 (omega (arith, H.few, c.requires.1)) _ _ c.direct_delays.ensures _ _ _
    (c.number.ensures ∙ H.direct-place) c.number-2.ensures
    (sources-told c.args.plan.now _ _ (direct_first c.args.plan.now) (direct_count c.args.plan.now) (grid m.kinds m.values) c.args.n _ c.table_right.ensures)

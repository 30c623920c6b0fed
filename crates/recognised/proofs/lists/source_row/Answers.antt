use Rattle.std.proofs.Common.{arith, sym, ◌∙◌}
use Rattle.recognised.proofs.Sits.{bytes_of}
use Rattle.recognised.proofs.Cells.{tells-eq}
use Rattle.recognised.proofs.Matrix.{row-yes, row-no, row-head, head-row}
use Rattle.recognised.proofs.lists.source_row.Goals as goal

pub returns-then-wide_field-s : goal.returns-then-wide_field-s
returns-then-wide_field-s c = let B = bytes_of c.args.plan.now (λ i. (c.type_inv.plan i).fits) in
    let h = row-head c.args.plan.now B c.args.place c.args.k c.args.s c.args.d c.requires.0 c.requires.1 (omega arith) in
    tells-eq _ _
    (λ e. row-yes c.args.plan.now B c.args.place c.args.k c.args.s c.args.d c.requires.0 h.0 h.1 (sym c.wide_field-then-wide_field-s.ensures ∙ e))
    (λ S. c.wide_field-then-wide_field-s.ensures ∙ (row-no c.args.plan.now B c.args.place c.args.k c.args.s c.args.d c.requires.0 c.requires.1 (omega arith) S).2)

pub returns-else-wide_field-s : goal.returns-else-wide_field-s
returns-else-wide_field-s c = let B = bytes_of c.args.plan.now (λ i. (c.type_inv.plan i).fits) in
    tells-eq _ _ (λ e. absurd (c.if-wide_field-s.false e))
    (λ S.
    let r = row-no c.args.plan.now B c.args.place c.args.k c.args.s c.args.d c.requires.0 c.requires.1 (omega arith) S in
    c.wide_field.ensures ∙ head-row c.args.plan.now B c.args.place c.args.k c.args.s c.args.d c.requires.0 r.0 r.1)

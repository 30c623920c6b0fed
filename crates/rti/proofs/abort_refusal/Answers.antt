use Rattle.std.proofs.Common.{arith, ◌≡◌, sym, ap, ◌∙◌}
use Rattle.std.proofs.lemmas.Grind.{common_steps}
use borrow.Author.Tests.{lt-ltb, le-ltb}
use Rattle.basis.specs.Choice.{not}
use Rattle.rti.proofs.Refusals.{else_next, else_holds, when-holds, when-not, first-said, runs_of, open_free}
use Rattle.rti.specs.Refusals.{refusal_no}
use Rattle.rti.specs.Entries.{abort_refusal}
use Rattle.rti.proofs.abort_refusal.Goals as goal

pub returns-in_err-open_refusal : goal.returns-in_err-open_refusal
returns-in_err-open_refusal c =
    let h : refusal_no c.in_err-open_refusal.field-0.0 ≡ abort_refusal c.args.plan.now c.args.s c.args.slab.now c.args.room = unfold abort_refusal in first-said _ _ _ c.in_err-open_refusal.ensures in
    grind (arith, common_steps)

pub well_formed-requires : goal.well_formed-requires
well_formed-requires c =
    let z = open_free _ _ (sym c.in_ok-open_refusal.ensures) in
    ((runs_of _ (λ i. (c.type_inv.plan i).fits) z.0).laid, z.1)

pub returns-then-not-well_formed : goal.returns-then-not-well_formed
unfolding abort_refusal
returns-then-not-well_formed c = else_next _ _ _ (sym c.in_ok-open_refusal.ensures) (else_holds _ 13 _ (ap not (sym c.well_formed-2.ensures ∙ c.if-not-well_formed.true)))

pub members-requires : goal.members-requires
members-requires c = (runs_of _ (λ i. (c.type_inv.plan i).fits) (open_free _ _ (sym c.in_ok-open_refusal.ensures)).0).laid

pub overflow_mul-members : goal.overflow_mul-members
overflow_mul-members c = omega (arith, c.members.ensures, (runs_of _ (λ i. (c.type_inv.plan i).fits) (open_free _ _ (sym c.in_ok-open_refusal.ensures)).0).laid.few-members)

pub overflow_add-members : goal.overflow_add-members
overflow_add-members c = omega (arith, c.members.ensures, (runs_of _ (λ i. (c.type_inv.plan i).fits) (open_free _ _ (sym c.in_ok-open_refusal.ensures)).0).laid.few-members)

pub overflow_mul-members-2 : goal.overflow_mul-members-2
overflow_mul-members-2 c = omega (arith, c.members.ensures, (runs_of _ (λ i. (c.type_inv.plan i).fits) (open_free _ _ (sym c.in_ok-open_refusal.ensures)).0).laid.few-members)

pub returns-then-room-members : goal.returns-then-room-members
unfolding abort_refusal
returns-then-room-members c = else_next _ _ _ (sym c.in_ok-open_refusal.ensures) (else_next _ _ _ (sym (when-not _ 14 (ap not (sym c.well_formed-2.ensures ∙ c.if-not-well_formed.false)))) (when-holds _ _ (lt-ltb _ _ (rw c.members.ensures at c.if-room-members.true))))

pub returns : goal.returns
unfolding abort_refusal
returns c = else_next _ _ _ (sym c.in_ok-open_refusal.ensures) (else_next _ _ _ (sym (when-not _ 14 (ap not (sym c.well_formed-2.ensures ∙ c.if-not-well_formed.false)))) (when-not _ 15 (le-ltb _ _ (rw c.members.ensures at c.if-room-members.false))))

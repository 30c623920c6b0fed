use Rattle.std.proofs.Common.{arith, ◌≡◌, sym, ◌∙◌}
use Rattle.std.proofs.lemmas.Grind.{common_steps}
use borrow.Author.Tests.{lt-ltb, le-ltb}
use Rattle.rti.proofs.Refusals.{else_next, when-holds, when-not, first-said, unrecognised-no, runs_of}
use Rattle.rti.specs.Refusals.{refusal_no, unrecognised}
use Rattle.rti.specs.Entries.{open_refusal}
use Rattle.rti.proofs.open_refusal.Goals as goal

pub returns-in_err-recognise : goal.returns-in_err-recognise
returns-in_err-recognise c =
    let h : refusal_no (unrecognised c.in_err-recognise.field-0.0) ≡ open_refusal c.args.plan.now c.args.words = unfold open_refusal in first-said _ _ _ (unrecognised-no c.in_err-recognise.field-0.0 ∙ c.in_err-recognise.ensures) in
    grind (arith, common_steps)

pub members-requires : goal.members-requires
members-requires c = (runs_of _ (λ i. (c.type_inv.plan i).fits) (sym c.in_ok-recognise.ensures)).laid

pub overflow_mul-members : goal.overflow_mul-members
overflow_mul-members c = omega (arith, c.members.ensures, (runs_of _ (λ i. (c.type_inv.plan i).fits) (sym c.in_ok-recognise.ensures)).laid.few-members)

pub returns-then-words-members : goal.returns-then-words-members
unfolding open_refusal
returns-then-words-members c = else_next _ _ _ (sym c.in_ok-recognise.ensures) (when-holds _ _ (lt-ltb _ _ (rw c.members.ensures at c.if-words-members.true)))

pub returns : goal.returns
unfolding open_refusal
returns c = else_next _ _ _ (sym c.in_ok-recognise.ensures) (when-not _ 13 (le-ltb _ _ (rw c.members.ensures at c.if-words-members.false)))

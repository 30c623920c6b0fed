use Rattle.std.proofs.Common.{arith, ◌≡◌, sym}
use Rattle.std.proofs.lemmas.Grind.{common_steps}
use Rattle.std.proofs.Common.{[], Err, refl}
use Rattle.states.specs.Records.{fresh_state}
use Rattle.rti.proofs.Refusals.{runs_of, open_free, judged-refused, judged-done}
use Rattle.rti.specs.Entries.{leaving, answered, opened}
use Rattle.rti.proofs.Opening.{begun}
use Rattle.rti.proofs.open.Goals as goal

pub returns-in_err-open_refusal : goal.returns-in_err-open_refusal
returns-in_err-open_refusal c =
    let h : leaving (answered (fresh_state 0 0) (Err c.in_err-open_refusal.field-0.0)) c.args.slab.now [] ≡ opened c.args.plan.now c.args.identity c.args.slab.now = unfold opened in judged-refused _ _ _ _ _ _ c.in_err-open_refusal.ensures in
    grind (arith, common_steps)

pub members-requires : goal.members-requires
members-requires c = (runs_of _ (λ i. (c.type_inv.plan i).fits) (open_free _ _ (sym c.in_ok-open_refusal.ensures)).0).laid

pub begin-requires : goal.begin-requires
begin-requires c =
    let z = open_free _ _ (sym c.in_ok-open_refusal.ensures) in
    rw c.members.ensures ((runs_of _ (λ i. (c.type_inv.plan i).fits) z.0).laid.few-members, z.1)

pub returns : goal.returns
unfolding opened
returns c = judged-done _ _ _ _ _ _ _ _ _ (sym c.in_ok-open_refusal.ensures) (begun _ _ _ _ _ _ c.members.ensures c.begin.ensures.0 c.begin.ensures.1) refl

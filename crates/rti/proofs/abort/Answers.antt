use Rattle.std.proofs.Common.{arith, ◌≡◌, sym, Err}
use Rattle.std.proofs.lemmas.Grind.{common_steps}
use Rattle.rti.proofs.Refusals.{runs_of, abort-free, judged-refused, judged-done}
use Rattle.rti.specs.Entries.{leaving, answered, aborted}
use Rattle.rti.proofs.abort.Goals as goal

pub returns-in_err-abort_refusal : goal.returns-in_err-abort_refusal
returns-in_err-abort_refusal c =
    let h : leaving (answered c.args.state (Err c.in_err-abort_refusal.field-0.0)) c.args.slab.now c.args.deliveries.now ≡ aborted c.args.plan.now c.args.state c.args.slab.now c.args.code c.args.deliveries.now =
    unfold aborted in judged-refused _ _ _ _ _ _ c.in_err-abort_refusal.ensures in
    grind (arith, common_steps)

pub abandon-requires : goal.abandon-requires
abandon-requires c = let z = abort-free _ _ _ _ (sym c.in_ok-abort_refusal.ensures) in (runs_of _ (λ i. (c.type_inv.plan i).fits) z.0, z.1, omega (arith, z.2))

pub returns : goal.returns
unfolding aborted
returns c = judged-done _ _ _ _ _ _ _ _ _ (sym c.in_ok-abort_refusal.ensures) c.abandon.ensures c.done.ensures

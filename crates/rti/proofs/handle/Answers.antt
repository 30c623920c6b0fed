use Rattle.std.proofs.Common.{arith, ◌≡◌, sym, ap, subst, Err}
use Rattle.std.proofs.lemmas.Grind.{common_steps}
use Rattle.states.specs.Formed.{FitsRequest}
use Rattle.requests.specs.Asking.{Heard}
use Rattle.requests.proofs.Heard.{asked-fits}
use Rattle.rti.proofs.Refusals.{first-said, runs_of, abort-free, judged-refused, misheard-leaves, heard-leaves}
use Rattle.rti.specs.Entries.{request_refusal, leaving, answered, handled}
use Rattle.rti.proofs.handle.Goals as goal

pub returns-in_err-abort_refusal : goal.returns-in_err-abort_refusal
returns-in_err-abort_refusal c =
    let h : leaving (answered c.args.state (Err c.in_err-abort_refusal.field-0.0)) c.args.slab.now c.args.deliveries.now ≡ handled c.args.plan.now c.args.state c.args.slab.now c.args.request.now c.args.deliveries.now =
    unfold handled request_refusal in judged-refused _ _ _ _ _ _ (first-said _ _ _ c.in_err-abort_refusal.ensures) in
    grind (arith, common_steps)

pub returns-in_err-asked : goal.returns-in_err-asked
returns-in_err-asked c =
    let h = misheard-leaves c.args.plan.now c.args.state c.args.slab.now c.args.deliveries.now c.args.request.now (sym c.in_ok-abort_refusal.ensures) c.in_err-asked.field-0.0 c.in_err-asked.ensures in
    grind (arith, common_steps)

pub step-requires : goal.step-requires
step-requires c =
    let z = abort-free _ _ _ _ (sym c.in_ok-abort_refusal.ensures) in
    let fits = asked-fits c.args.request.now (λ k. omega (arith, c.type_inv.request k)) (sym (ap (λ (h : Heard). h.number) c.in_ok-asked.ensures)) in
    (runs_of _ (λ i. (c.type_inv.plan i).fits) z.0, z.1, subst (λ (h : Heard). FitsRequest h.request) (sym c.in_ok-asked.ensures) fits, omega (arith, z.2))

pub returns : goal.returns
returns c = heard-leaves c.args.plan.now c.args.state c.args.slab.now c.args.deliveries.now c.args.request.now (sym c.in_ok-abort_refusal.ensures) _ _ _ _ _ c.in_ok-asked.ensures c.step.ensures c.done.ensures

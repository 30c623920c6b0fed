use Rattle.std.proofs.Common.{refl}
use Rattle.std.proofs.lemmas.Result.{err_from_is_err_and}
use Rattle.delays.specs.Refusals.{judged, or_else}
use Rattle.delays.proofs.Refusals.{is_refused}
use Rattle.delays.proofs.Matrix.judge.Goals as goal

pub returns-in_err-cycle_refusal : goal.returns-in_err-cycle_refusal
unfolding judged or_else
returns-in_err-cycle_refusal c =
    let p = err_from_is_err_and c.from_residual.result c.from_residual.ensures.1 in
    rw (p.1, p.2, ← c.in_err-cycle_refusal.ensures, is_refused c.in_err-cycle_refusal.field-0.0) refl

pub returns : goal.returns
unfolding judged or_else
returns c = rw (← c.in_ok-cycle_refusal.ensures) c.far_refusal.ensures

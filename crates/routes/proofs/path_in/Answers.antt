use Rattle.std.proofs.Common.{refl, inl, inr, Err}
use Rattle.std.proofs.lemmas.Result.{err_from_is_err_and}
use Rattle.routes.specs.Paths.{found}
use Rattle.routes.proofs.Sought.{sought_nothing, sought_outside, refused_blank, nowhere_blank, not_zero}
use Rattle.routes.proofs.path_in.Goals as goal
use Rattle.routes.proofs.path_in.Goals.{then-plan-from-via-then-plan-from, then-plan-from-via-else-plan-from+then-plan-to}

pub returns-in_err-analyse : goal.returns-in_err-analyse
returns-in_err-analyse c =
    let r = c.in_err-analyse.field-0.0 in
    let p = err_from_is_err_and c.from_residual.result c.from_residual.ensures.1 in
    rw (p.1, p.2) (sought_nothing _ _ _ _ _ c.in_err-analyse.ensures.answer (found (Err r)) (refl, refused_blank r) (not_zero r))

pub returns-then-plan-from : goal.returns-then-plan-from
returns-then-plan-from c =
    sought_outside c.args.plan _ _ _ _ c.in_ok-analyse.ensures.answer c.requires _ (refl, nowhere_blank)
    (elim c.then-plan-from.branch [ then-plan-from-via-then-plan-from w ↦ inl w.if-plan-from.true | then-plan-from-via-else-plan-from+then-plan-to w ↦ inr w.if-plan-to.true ])

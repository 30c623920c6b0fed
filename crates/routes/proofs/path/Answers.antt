use Rattle.std.proofs.Common.{Ok, refl}
use Rattle.std.proofs.lemmas.Result.{err_from_is_err_and}
use Rattle.plans.specs.Reading.{reading}
use Rattle.routes.proofs.Sought.{read-fits, path-refused, refused-then}
use Rattle.routes.proofs.path.Goals as goal

pub returns-in_err-plan : goal.returns-in_err-plan
returns-in_err-plan c =
    let p = err_from_is_err_and c.from_residual.result c.from_residual.ensures.1 in
    rw (p.1, p.2) (path-refused _ _ _ c.in_err-plan.field-0.0 c.in_err-plan.ensures)

pub path_in-requires : goal.path_in-requires
path_in-requires c = read-fits _ _ c.in_ok-plan.ensures

pub returns : goal.returns
returns c = refused-then _ (reading (Ok c.in_ok-plan.plan)) _ _ _ c.in_ok-plan.ensures refl c.path_in.ensures

use Rattle.std.proofs.Common.{Ok, Err, refl}
use Rattle.std.proofs.lemmas.Result.{err_from_is_err_and}
use Rattle.plans.specs.Reading.{reading}
use Rattle.routes.specs.Paths.{found}
use Rattle.routes.proofs.Sought.{read-fits, refused_blank, not_zero}
use Rattle.routes.proofs.Witnesses.{witnessed-not, witnessed}
use Rattle.routes.proofs.witness.Goals as goal

pub returns-in_err-read : goal.returns-in_err-read
returns-in_err-read c =
    let r = c.in_err-read.field-0.0 in
    let p = err_from_is_err_and c.from_residual.result c.from_residual.ensures.1 in
    rw (p.1, p.2) (witnessed-not _ (reading (Err r)) (found (Err r)) c.in_err-read.ensures (refl, refused_blank r) (not_zero r))

pub walk_in-requires : goal.walk_in-requires
walk_in-requires c = read-fits _ _ c.in_ok-read.ensures

pub returns : goal.returns
returns c = witnessed _ (reading (Ok c.in_ok-read.field-0)) _ c.in_ok-read.ensures c.walk_in.ensures refl

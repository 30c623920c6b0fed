use Rattle.std.proofs.lemmas.Result.{err_from_is_err_and}
use Rattle.image.proofs.Outcomes.{analysed-out, analysed_in}
use Rattle.image.proofs.compile_plan.Goals as goal

pub returns-in_err-analyse : goal.returns-in_err-analyse
returns-in_err-analyse c =
    let q = err_from_is_err_and c.from_residual.result c.from_residual.ensures.1 in
    rw (q.1, q.2) (analysed-out c.args.p c.args.out.now c.in_err-analyse.field-0.0 (c.in_err-analyse.ensures).answer)

pub returns : goal.returns
returns c = analysed_in c.args.p c.args.out.now (c.in_ok-analyse.ensures).answer c.fit.ensures

use Rattle.std.proofs.Common.{ap}
use Rattle.std.proofs.lemmas.Result.{err_from_is_err_and}
use Rattle.plans.specs.Reading.{Reading}
use Rattle.plans.proofs.Right.{reading-fits}
use Rattle.image.proofs.Outcomes.{read_out, read_in}
use Rattle.image.proofs.compile.Goals as goal

pub returns-in_err-read : goal.returns-in_err-read
returns-in_err-read c =
    let q = err_from_is_err_and c.from_residual.result c.from_residual.ensures.1 in
    rw (q.1, q.2) (read_out c.args.plan.now c.args.out.now c.in_err-read.field-0.0 c.in_err-read.ensures)

pub compile_plan-requires : goal.compile_plan-requires
compile_plan-requires c = rw (ap (λ (x : Reading). x.plan) c.in_ok-read.ensures) (reading-fits c.args.plan.now)

pub returns : goal.returns
returns c = read_in c.args.plan.now c.args.out.now c.in_ok-read.ensures c.compile_plan.ensures

use Rattle.std.proofs.Common.{ℕ, sym, arith, rules, get_or, Fits, w64}
use Rattle.routes.proofs.Traces.{found}
use Rattle.routes.proofs.Attaining.{zeros, marked-held, marked-near, enough, answered, unanswered}
use Rattle.routes.proofs.route.Goals as goal

pub trace-count-requires : goal.trace-count-requires
trace-count-requires c =
    let a = c.args in
    let F = c.requires.0 in
    let w = λ (q : ℕ). let f : Fits w64 (get_or a.plan.delays q 0) = search rules in f.fits in
    let M = marked-held a.plan F a.minima.now.kinds a.minima.now.values a.from _ _ c.requires.1 (omega (arith, c.requires.3, F.few)) c.mark_all-marks.ensures in
    let E = found a.plan.targets _ a.to _ (sym c.in-Some.ensures.1) c.in-Some.ensures.0 in
    (omega arith, enough a.plan F w a.from _ M c.requires.2 a.to c.requires.4 (rw E.leads at (marked-near a.plan F w a.from _ M _ E.marked)))

pub returns-in-Some : goal.returns-in-Some
returns-in-Some c =
    let a = c.args in
    let F = c.requires.0 in
    let w = λ (q : ℕ). let f : Fits w64 (get_or a.plan.delays q 0) = search rules in f.fits in
    let M = marked-held a.plan F a.minima.now.kinds a.minima.now.values a.from _ _ c.requires.1 (omega (arith, c.requires.3, F.few)) c.mark_all-marks.ensures in
    let E = found a.plan.targets _ a.to _ (sym c.in-Some.ensures.1) c.in-Some.ensures.0 in
    answered a.plan F w a.from _ M c.requires.2 _ _ a.to _ c.trace-count.ensures (omega arith) (zeros 32) (rw E.leads at (marked-near a.plan F w a.from _ M _ E.marked))

pub returns-in-None : goal.returns-in-None
returns-in-None c =
    let a = c.args in
    let F = c.requires.0 in
    let w = λ (q : ℕ). let f : Fits w64 (get_or a.plan.delays q 0) = search rules in f.fits in
    let M = marked-held a.plan F a.minima.now.kinds a.minima.now.values a.from _ _ c.requires.1 (omega (arith, c.requires.3, F.few)) c.mark_all-marks.ensures in
    unanswered a.plan F w a.from _ M c.requires.2 _ a.to _ (zeros 32) c.requires.3 c.requires.4 (sym c.in-None.ensures) (omega arith)

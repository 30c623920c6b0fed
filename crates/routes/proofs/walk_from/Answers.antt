use Rattle.std.proofs.Common.{◌≡◌, ℕ, arith, rules, length, get_or, Fits, w64}
use Rattle.routes.proofs.Attaining.{zeros}
use Rattle.routes.proofs.Witnesses.{keeping-held, sets-out, leaves, onward, closed_of}
use Rattle.routes.proofs.walk_from.Goals as goal

pub visit-span-requires : goal.visit-span-requires
visit-span-requires c =
    let a = c.args in
    let F = c.requires.0 in
    let w = λ (q : ℕ). let f : Fits w64 (get_or a.plan.delays q 0) = search rules in f.fits in
    let K = keeping-held a.plan F a.minima.now.kinds a.minima.now.values a.home _ _ c.requires.1 (omega (arith, c.requires.2, F.few)) c.keep-kept.ensures in
    (onward a.plan F a.home _ K w c.requires.3, omega (arith, c.requires.2, F.few), zeros 32 a.home, leaves a.plan F a.home _ K w c.requires.3 a.home c.requires.3, sets-out _ _ _ _)

pub returns : goal.returns
returns c =
    let a = c.args in
    let F = c.requires.0 in
    let K = keeping-held a.plan F a.minima.now.kinds a.minima.now.values a.home _ _ c.requires.1 (omega (arith, c.requires.2, F.few)) c.keep-kept.ensures in
    let long : length c.cut.result.edges ≡ 32 = search rules in
    closed_of a.plan F a.home _ K _ c.cut.result.edges _ _ c.cut.result.count c.visit-span.ensures c.cut.ensures.count long c.cut.ensures.moved

use Rattle.std.proofs.Common.{sym, ◌∙◌, arith}
use Rattle.routes.proofs.Attaining.{zeros}
use Rattle.routes.proofs.Witnesses.{loop-held, loop-zero, no-witness, a-witness}
use Rattle.routes.proofs.walk_in.Goals as goal

pub walk_from-requires : goal.walk_from-requires
walk_from-requires c =
    let p = c.args.plan in
    let H = c.minimum_delays.ensures in
    let e = sym c.in-Some.ensures.1 ∙ loop-held p c.requires _ _ H in
    (c.requires, H, c.in-Some.ensures.0, loop-zero p _ e c.in-Some.ensures.0)

pub returns-in-Some : goal.returns-in-Some
returns-in-Some c =
    let p = c.args.plan in
    let e = sym c.in-Some.ensures.1 ∙ loop-held p c.requires _ _ c.minimum_delays.ensures in
    a-witness p _ e _ c.in-Some.ensures.0 c.walk_from.ensures

pub returns-in-None : goal.returns-in-None
returns-in-None c =
    let p = c.args.plan in
    let e = sym c.in-None.ensures ∙ loop-held p c.requires _ _ c.minimum_delays.ensures in
    no-witness p _ e _ (zeros 32) (omega arith)

use mathlib.Core.Path.{sym}
use native.Mathlib.Omega.{arith}
use Rattle.members.proofs.Typed.{typed}
use Rattle.members.proofs.Nets.{net_count}
use Rattle.kinds.proofs.Effects.{member-known}
use Rattle.steps.proofs.Ties.{fail-leaves, taken-leaves}
use Rattle.steps.proofs.answer.Goals as goal

pub accept-requires : goal.accept-requires
accept-requires c =
    let free = sym c.in-Ok.ensures in
    (c.requires.0, c.requires.1, omega (arith, member-known _ _ c.args.member c.args.q free, net_count c.args.plan.now), free, c.requires.2, c.requires.3)

pub returns-in-Ok : goal.returns-in-Ok
returns-in-Ok c = taken-leaves _ _ _ _ _ _ _ _ _ _ (sym c.in-Ok.ensures) c.accept.ensures

pub returns-in-Err : goal.returns-in-Err
returns-in-Err c = fail-leaves _ c.requires.0 c.args.s _ c.requires.1 (typed c.args.s _ c.well_formed.1.0) _ c.args.q _ _ _ _ _ _ _ c.in-Err.ensures c.code.ensures c.members.ensures c.fail.ensures

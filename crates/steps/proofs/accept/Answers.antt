use mathlib.Core.Path.{sym, ◌∙◌}
use native.Mathlib.Omega.{arith}
use Rattle.members.proofs.Typed.{typed}
use Rattle.kinds.proofs.Effects.{sent_is, routed}
use Rattle.steps.proofs.Ties.{opened-state, opened-few, effect-ready, accept-leaves}
use Rattle.steps.proofs.accept.Goals as goal

pub first_delivery-f-requires : goal.first_delivery-f-requires
first_delivery-f-requires c = (c.requires.0.laid, routed _ c.requires.0.laid c.args.s _ c.requires.1.fits c.requires.1.formed (typed c.args.s _ c.well_formed.1.0).whole c.args.i c.args.q c.requires.3)

pub after-requires : goal.after-requires
after-requires c =
    let e = c.effect-t.ensures in
    let f = c.first_delivery-f.result in
    let p = c.first-p in
    (c.requires.0, c.requires.2, effect-ready _ c.requires.0 c.args.s _ c.requires.1 (typed c.args.s _ c.well_formed.1.0) c.args.i c.args.q c.requires.2 c.requires.3 c.requires.4 (λ k. grind arith) _ _ (opened-state f _ _ _ p.ensures ∙ e.0) e.1, omega (arith, opened-few f _ _ _ p.ensures, c.requires.5))

pub returns : goal.returns
returns c =
    let e = c.effect-t.ensures in
    let f = c.first_delivery-f in
    accept-leaves _ c.requires.0 c.args.s _ c.requires.1 (typed c.args.s _ c.well_formed.1.0) c.args.i c.args.q c.requires.2 c.requires.3 c.requires.4 (λ k. grind arith) f.result _ _ _ _ _ _
    (sent_is _ _ c.args.i c.args.q (routed _ c.requires.0.laid c.args.s _ c.requires.1.fits c.requires.1.formed (typed c.args.s _ c.well_formed.1.0).whole c.args.i c.args.q c.requires.3) ∙ sym f.ensures) e.0 e.1 c.first-p.ensures c.after.ensures

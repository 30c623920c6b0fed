use Rattle.std.proofs.Common.{◌≡◌, eqb, false, rules, refl, sym, ◌∙◌, arith}
use borrow.Author.Tests.{eq-eqb}
use Rattle.basis.specs.Choice.{both}
use Rattle.delays.specs.declared.Reach.TheVariants.{At}
use Rattle.routes.proofs.Marks.{seen_at, seen-not, sum-seen, sum-other, mark-near, mark-out, not_alone}
use Rattle.routes.proofs.marking.mark_of.Goals as goal
use Rattle.routes.proofs.marking.mark_of.Goals.{else-s-from-via-then-s-from+else-d-v, else-s-from-via-else-s-from}

pub returns-then-d-v : goal.returns-then-d-v
returns-then-d-v c = mark-near _ _ _ _ _ _ _ (sym c.reach.ensures ∙ c.in-At.is) (rw (eq-eqb _ _ c.if-s-from.true, eq-eqb _ _ c.if-d-v.true) refl)

pub returns-then-eq : goal.returns-then-eq
returns-then-eq c =
    let v = sym c.reach.ensures ∙ c.in-At.is in
    let e : c.sum.result ≡ At c.in-At.v = search rules in
    let k = seen_at _ _ v in
    let n : both (eqb c.args.s c.args.from) (eqb c.args.d c.in-At.v) ≡ false = elim c.else-s-from.branch [
      | else-s-from-via-then-s-from+else-d-v w ↦ not_alone (λ x. 0) c.args.from c.args.s 0 c.args.d c.in-At.v (λ _. w.if-d-v.false)
      | else-s-from-via-else-s-from w ↦ not_alone (λ x. 0) c.args.from c.args.s 0 c.args.d c.in-At.v (λ y _. w.if-s-from.false y)
    ] in
    mark-near _ _ _ _ _ _ _ v (rw (n, sum-seen _ c.args.d c.in-At.v _ _ c.reach-else-s-from.ensures c.sum.ensures (omega arith) (omega (arith, k.0, k.1)) e) refl)

pub returns-else-eq : goal.returns-else-eq
returns-else-eq c =
    let v = sym c.reach.ensures ∙ c.in-At.is in
    let e : c.sum.result ≡ At c.in-At.v → ⊥ = λ z. search rules in
    let k = seen_at _ _ v in
    let n : both (eqb c.args.s c.args.from) (eqb c.args.d c.in-At.v) ≡ false = elim c.else-s-from.branch [
      | else-s-from-via-then-s-from+else-d-v w ↦ not_alone (λ x. 0) c.args.from c.args.s 0 c.args.d c.in-At.v (λ _. w.if-d-v.false)
      | else-s-from-via-else-s-from w ↦ not_alone (λ x. 0) c.args.from c.args.s 0 c.args.d c.in-At.v (λ y _. w.if-s-from.false y)
    ] in
    mark-near _ _ _ _ _ _ _ v (rw (n, sum-other _ c.args.d c.in-At.v _ _ c.reach-else-s-from.ensures c.sum.ensures (omega arith) (omega (arith, k.0, k.1)) e) refl)

pub returns-in_default : goal.returns-in_default
returns-in_default c = mark-out _ _ _ _ _ (seen-not _ (λ d e. c.in_default.not-At d (c.reach.ensures ∙ e)))

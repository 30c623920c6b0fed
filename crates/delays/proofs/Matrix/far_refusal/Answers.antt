use Rattle.std.proofs.Common.{refl, sym, ◌∙◌, arith}
use borrow.Author.Tests.{lt-ltb, le-ltb}
use Rattle.delays.specs.Refusals.{far_source, far_of}
use Rattle.delays.proofs.Search.{first-start, first-here, first_on, first-end, finds_none}
use Rattle.delays.proofs.Matrix.far_refusal.Goals as goal

pub loop-s-init : goal.loop-s-init
unfolding far_source
loop-s-init c = first-start _ _

pub loop-s-preserved : goal.loop-s-preserved
loop-s-preserved c =
    let e = finds_none _ c.far_target.ensures c.in_default.not-Some in
    sym (first_on _ c.loop-s.s c.args.n (omega arith) (rw e (le-ltb c.args.n c.args.n (omega arith)))) ∙ c.loop-s.invariant

pub returns-in-Some : goal.returns-in-Some
unfolding far_of
returns-in-Some c =
    let e = c.in-Some.ensures in
    let s = sym (first-here _ c.loop-s.s c.args.n (omega arith) (rw e.1 (lt-ltb _ _ e.0))) ∙ c.loop-s.invariant in
    rw (← s) (rw (lt-ltb c.loop-s.s c.args.n (omega arith), e.1) refl)

pub returns : goal.returns
unfolding far_of
returns c =
    let s = sym (first-end _ c.loop-s.s c.args.n (omega arith)) ∙ c.loop-s.invariant in
    rw (← s, le-ltb c.loop-s.s c.args.n (omega arith)) refl

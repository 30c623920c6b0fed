use Rattle.std.proofs.Common.{◌≡◌, arith, sym, below_more}
use Rattle.recognised.proofs.Matrix.{filled_none, filled_more}
use Rattle.recognised.proofs.Cells.{tells_true, tells_false, never}
use Rattle.recognised.proofs.Words.{plains-set}
use Rattle.recognised.proofs.claims.claim_rows.Goals as goal

pub loop-q-init : goal.loop-q-init
loop-q-init c = (λ x l. absurd (omega arith), filled_none _ _ _ _ (omega arith) _ _ c.requires.3, λ h P. P)

pub returns-then-n-s : goal.returns-then-n-s
returns-then-n-s c = let l = c.loop-q in
    record { told = tells_false (λ all. absurd (omega (arith, all l.q (omega arith)))); filled = λ e. never (sym e); plain = λ e. never (sym e) }

pub loop-q-preserved : goal.loop-q-preserved
loop-q-preserved c = let l = c.loop-q in (
  below_more _ _ l.invariant.0 (omega arith),
  filled_more _ _ c.args.k c.args.t (omega arith) _ _ _ _ l.q _ _ (omega arith) (omega arith) (omega arith) (omega arith) (sym c.field-s.ensures) (sym c.wide_field-d.ensures) l.invariant.1,
  λ h P. plains-set _ _ _ _ (omega arith) (omega arith) (omega arith) (omega (arith, h l.q (omega arith))) (l.invariant.2 (λ x y. h x (omega arith)) P),
)

pub returns : goal.returns
returns c = let l = c.loop-q in
    let e : c.args.c ≡ l.q = omega arith in
    record { told = tells_true (λ x h. l.invariant.0 x (omega arith)); filled = λ y. rw e l.invariant.1; plain = λ y h P. l.invariant.2 (λ x g. h x (omega arith)) P }

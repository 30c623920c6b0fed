use Rattle.std.proofs.Common.{◌≡◌, arith, sym, below_more}
use Rattle.recognised.proofs.Walks.{claimed_none, claimed_more, claimed_all}
use Rattle.recognised.proofs.Cells.{tells_true, tells_false, never}
use Rattle.recognised.proofs.claims.claim.Goals as goal

pub loop-t-init : goal.loop-t-init
loop-t-init c = (λ x l. absurd (omega arith), claimed_none _ _ _ c.requires.2, λ h P. P)

pub claim_member-requires : goal.claim_member-requires
claim_member-requires c = let l = c.loop-t in (c.requires.0, c.requires.1, omega arith, λ x a. l.invariant.1.left x l.t a (omega arith) (omega (arith, c.requires.0.few)))

pub returns-then-not-claim_member : goal.returns-then-not-claim_member
returns-then-not-claim_member c = let l = c.loop-t in
    record { told = tells_false (λ all. c.claim_member.ensures.told.wrong c.if-not-claim_member.true (all l.t (omega arith))); filled = λ e. never (sym e); plain = λ e. never (sym e) }

pub loop-t-preserved : goal.loop-t-preserved
loop-t-preserved c = let l = c.loop-t in
    let r = c.claim_member in (
      below_more _ _ l.invariant.0 (r.ensures.told.right c.if-not-claim_member.false),
      claimed_more _ _ _ _ _ l.t (omega (arith, c.requires.0.few)) l.invariant.1 (r.ensures.filled c.if-not-claim_member.false),
      λ h P. r.ensures.plain c.if-not-claim_member.false h (l.invariant.2 h P),
    )

pub returns : goal.returns
returns c = let l = c.loop-t in
    let e : l.t ≡ c.args.n = omega arith in
    record { told = tells_true (λ x h. l.invariant.0 x (omega arith)); filled = λ y. claimed_all _ _ _ c.args.n (omega (arith, c.requires.0.few)) (rw (← e) l.invariant.1); plain = λ y. l.invariant.2 }

use Rattle.std.proofs.Common.{arith, sym, ◌∙◌}
use Rattle.recognised.proofs.Walks.{readable_of, names_of, within_of, filled_of}
use Rattle.recognised.proofs.Cells.{tells_false, never}
use Rattle.recognised.proofs.claims.claim_member.Goals as goal

pub returns-then-rows-first : goal.returns-then-rows-first
returns-then-rows-first c = record { told = tells_false (λ R. let w = within_of c.args.plan.now c.args.t c.number-place.result c.field-first.result c.field-count.result c.args.n (omega arith) c.field-first.ensures c.field-count.ensures c.requires.1 R in omega arith); filled = λ e. never (sym e); plain = λ e. never (sym e) }

pub claim_rows-requires : goal.claim_rows-requires
claim_rows-requires c = (omega arith, omega arith, omega arith, c.requires.3)

pub returns : goal.returns
returns c = record {
  told = record {
    right = λ e. readable_of c.args.plan.now c.args.t c.number-place.result c.field-first.result c.field-count.result c.args.n (omega arith) c.field-first.ensures c.field-count.ensures c.requires.1 (omega arith) (c.claim_rows.ensures.told.right e);
    wrong = λ e R. c.claim_rows.ensures.told.wrong e (names_of c.args.plan.now c.args.t c.number-place.result c.field-first.result c.field-count.result c.args.n (omega arith) c.field-first.ensures c.field-count.ensures c.requires.1 R);
  };
  filled = λ e. filled_of c.args.plan.now c.args.t c.number-place.result c.field-first.result c.field-count.result c.args.n (omega arith) c.field-first.ensures c.field-count.ensures c.requires.1 _ _ _ _ (c.claim_rows.ensures.filled e);
  plain = λ e h P.
      let z = c.number-place.ensures ∙ c.requires.0.transitive-place in
      c.claim_rows.ensures.plain e (λ q l. rw z (h _ (omega arith))) P;
}

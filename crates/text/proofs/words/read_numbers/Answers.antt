use Rattle.std.proofs.Common.{ℕ, ◌≡◌, ◌+◌, ◌==◌, List, Option, length, drop, set, arith, rules, ap, sym, ◌∙◌, add-one}
use Rattle.std.specs.List.{slice_split}
use Rattle.std.specs.Option.{option_and_then}
use Rattle.std.specs.Slice.Iter.{split_rest, split_done, split_callee}
use Rattle.std.proofs.Math.Seq.{set_out, sets}
use Rattle.std.proofs.lemmas.List.{length_push}
use Rattle.std.proofs.lemmas.Iterator.Consumers.{YieldsList-turn, YieldsList-end}
use Rattle.std.proofs.lemmas.Iterator.Splits.{YieldsList-from_slice_split}
use Rattle.text.specs.Numbers.{led_by, leading, count_from}
use Rattle.text.proofs.Places.{tail-is}
use Rattle.text.proofs.Splits.{words-next, words-none, count-turn, leading-turn, count-end, leading-end}
use Rattle.text.proofs.words.read_numbers.Goals.{then-count-out, else-count-out}
use Rattle.text.proofs.words.read_numbers.Goals as goal

pub returns-in_err-n-clause-value : goal.returns-in_err-n-clause-value
returns-in_err-n-clause-value c =
    let l = c.loop-word in
    let ws = slice_split (λ (b : ℕ). b == 32) (drop (c.args.from + 1) c.args.line.now) in
    let i = c.into_iter-word-iterator.ensures.into_iter_gives in
    let t = YieldsList-turn (YieldsList-from_slice_split {s = c.into_iter-word-iterator.result} _ (λ b. b == 32) (drop (c.args.from + 1) c.args.line.now) (ap split_rest i ∙ c.split-word-items.ensures.rest ∙ tail-is c.args.line.now (c.args.from + 1)) (ap split_done i ∙ c.split-word-items.ensures.done) (ap split_callee i ∙ c.split-word-items.ensures.closure) (λ x b q k. search rules)) l.yielded _ l.yielded_by _ _ c.in-Some.word c.in-Some.is c.next.ensures.steps in
    c.from_residual.ensures
    ∙ ap (option_and_then (λ (v : ℕ). count_from (l.count + 1) (drop (l.count + 1) ws))) c.in_err-n.ensures
    ∙ sym (count-turn ws l.count (length l.yielded) c.in-Some.word.now l.invariant.at t)
    ∙ l.invariant.value
    ∙ sym (ap (count_from 0) (words-next c.args.line.now c.args.from c.if-from-line.true))

pub returns-in_err-n-clause-out_after : goal.returns-in_err-n-clause-out_after
returns-in_err-n-clause-out_after c =
    let l = c.loop-word in
    let ws = slice_split (λ (b : ℕ). b == 32) (drop (c.args.from + 1) c.args.line.now) in
    let i = c.into_iter-word-iterator.ensures.into_iter_gives in
    let t = YieldsList-turn (YieldsList-from_slice_split {s = c.into_iter-word-iterator.result} _ (λ b. b == 32) (drop (c.args.from + 1) c.args.line.now) (ap split_rest i ∙ c.split-word-items.ensures.rest ∙ tail-is c.args.line.now (c.args.from + 1)) (ap split_done i ∙ c.split-word-items.ensures.done) (ap split_callee i ∙ c.split-word-items.ensures.closure) (λ x b q k. search rules)) l.yielded _ l.yielded_by _ _ c.in-Some.word c.in-Some.is c.next.ensures.steps in
    ap (λ (n : Option ℕ). sets l.out l.count (led_by n (leading (drop (l.count + 1) ws)))) c.in_err-n.ensures
    ∙ sym (ap (sets l.out l.count) (leading-turn ws l.count (length l.yielded) c.in-Some.word.now l.invariant.at t))
    ∙ l.invariant.kept
    ∙ sym (ap (λ (x : List (List ℕ)). sets c.args.out.now 0 (leading x)) (words-next c.args.line.now c.args.from c.if-from-line.true))

pub loop-word-preserved : goal.loop-word-preserved
loop-word-preserved c =
    let l = c.loop-word in
    let ws = slice_split (λ (b : ℕ). b == 32) (drop (c.args.from + 1) c.args.line.now) in
    let i = c.into_iter-word-iterator.ensures.into_iter_gives in
    let t = YieldsList-turn (YieldsList-from_slice_split {s = c.into_iter-word-iterator.result} _ (λ b. b == 32) (drop (c.args.from + 1) c.args.line.now) (ap split_rest i ∙ c.split-word-items.ensures.rest ∙ tail-is c.args.line.now (c.args.from + 1)) (ap split_done i ∙ c.split-word-items.ensures.done) (ap split_callee i ∙ c.split-word-items.ensures.closure) (λ x b q k. search rules)) l.yielded _ l.yielded_by _ _ c.in-Some.word c.in-Some.is c.next.ensures.steps in
    let n = c.in_ok-n.n in
    let rest = leading (drop (l.count + 1) ws) in
    let u : c.if-count-out.out ≡ set l.out l.count n =
    elim c.if-count-out.branch [ then-count-out w ↦ w.out-is | else-count-out w ↦ w.out-is ∙ sym (set_out _ _ _ (omega arith)) ] in
    record {
      at = omega (arith, length_push l.yielded c.in-Some.word, l.invariant.at);
      value =
          ap (option_and_then (λ (v : ℕ). count_from (l.count + 1) (drop (l.count + 1) ws))) c.in_ok-n.ensures
          ∙ sym (count-turn ws l.count (length l.yielded) c.in-Some.word.now l.invariant.at t)
          ∙ l.invariant.value;
      kept =
          ap (λ (o : List ℕ). sets o (l.count + 1) rest) u
          ∙ ap (λ (i : ℕ). sets (set l.out l.count n) i rest) (add-one l.count)
          ∙ ap (λ (m : Option ℕ). sets l.out l.count (led_by m rest)) c.in_ok-n.ensures
          ∙ sym (ap (sets l.out l.count) (leading-turn ws l.count (length l.yielded) c.in-Some.word.now l.invariant.at t))
          ∙ l.invariant.kept;
    }

pub returns-in-None-clause-value : goal.returns-in-None-clause-value
returns-in-None-clause-value c =
    let l = c.loop-word in
    let ws = slice_split (λ (b : ℕ). b == 32) (drop (c.args.from + 1) c.args.line.now) in
    let i = c.into_iter-word-iterator.ensures.into_iter_gives in
    let t = YieldsList-end (YieldsList-from_slice_split {s = c.into_iter-word-iterator.result} _ (λ b. b == 32) (drop (c.args.from + 1) c.args.line.now) (ap split_rest i ∙ c.split-word-items.ensures.rest ∙ tail-is c.args.line.now (c.args.from + 1)) (ap split_done i ∙ c.split-word-items.ensures.done) (ap split_callee i ∙ c.split-word-items.ensures.closure) (λ x b q k. search rules)) l.yielded _ l.yielded_by _ _ c.in-None.is c.next.ensures.steps in
    sym (count-end ws l.count (length l.yielded) l.invariant.at t.1)
    ∙ l.invariant.value
    ∙ sym (ap (count_from 0) (words-next c.args.line.now c.args.from c.if-from-line.true))

pub returns-in-None-clause-out_after : goal.returns-in-None-clause-out_after
returns-in-None-clause-out_after c =
    let l = c.loop-word in
    let ws = slice_split (λ (b : ℕ). b == 32) (drop (c.args.from + 1) c.args.line.now) in
    let i = c.into_iter-word-iterator.ensures.into_iter_gives in
    let t = YieldsList-end (YieldsList-from_slice_split {s = c.into_iter-word-iterator.result} _ (λ b. b == 32) (drop (c.args.from + 1) c.args.line.now) (ap split_rest i ∙ c.split-word-items.ensures.rest ∙ tail-is c.args.line.now (c.args.from + 1)) (ap split_done i ∙ c.split-word-items.ensures.done) (ap split_callee i ∙ c.split-word-items.ensures.closure) (λ x b q k. search rules)) l.yielded _ l.yielded_by _ _ c.in-None.is c.next.ensures.steps in
    sym (ap (sets l.out l.count) (leading-end ws l.count (length l.yielded) l.invariant.at t.1))
    ∙ l.invariant.kept
    ∙ sym (ap (λ (x : List (List ℕ)). sets c.args.out.now 0 (leading x)) (words-next c.args.line.now c.args.from c.if-from-line.true))

pub returns-else-from-line-clause-value : goal.returns-else-from-line-clause-value
unfolding count_from
returns-else-from-line-clause-value c = sym (ap (count_from 0) (words-none c.args.line.now c.args.from c.if-from-line.false))

pub returns-else-from-line-clause-out_after : goal.returns-else-from-line-clause-out_after
unfolding leading
returns-else-from-line-clause-out_after c = sym (ap (λ (x : List (List ℕ)). sets c.args.out.now 0 (leading x)) (words-none c.args.line.now c.args.from c.if-from-line.false))

use Rattle.std.proofs.Common.{◌+◌, sym, ap, ◌∙◌, arith, drop}
use Rattle.std.specs.Option.{option_and_then}
use Rattle.text.specs.Numbers.{read_from}
use Rattle.text.proofs.Decimals.{read_step, read-end}
use Rattle.text.proofs.words.digits.Goals as goal

pub returns-in_err-v : goal.returns-in_err-v
returns-in_err-v c =
    let w = c.args.word.now in
    let i = c.loop-b.b-index in
    c.from_residual.ensures ∙ ap (option_and_then (read_from (drop (i + 1) w))) c.in_err-v.ensures ∙ sym (read_step w i c.loop-b.v (omega arith)) ∙ c.loop-b.invariant

pub loop-b-preserved : goal.loop-b-preserved
loop-b-preserved c =
    let w = c.args.word.now in
    let i = c.loop-b.b-index in
    ap (option_and_then (read_from (drop (i + 1) w))) c.in_ok-v.ensures ∙ sym (read_step w i c.loop-b.v (omega arith)) ∙ c.loop-b.invariant

pub returns : goal.returns
returns c =
    sym (read-end c.args.word.now c.loop-b.b-index c.loop-b.v (omega arith)) ∙ c.loop-b.invariant

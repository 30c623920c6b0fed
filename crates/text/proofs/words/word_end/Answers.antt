use Rattle.std.proofs.Common.{Option, ℕ, ◌∙◌, ap, length, unwrap_or}
use Rattle.text.proofs.Places.{word_end-is}
use Rattle.text.proofs.words.word_end.Goals as goal

pub returns-clause-value : goal.returns-clause-value
returns-clause-value c =
    c.unwrap_or.ensures
    ∙ ap (λ (o : Option ℕ). unwrap_or o (length c.args.line.now)) c.find.ensures.value
    ∙ word_end-is c.args.line.now c.args.from c.requires

use Rattle.std.proofs.Common.{arith}
use Rattle.recognised.proofs.Sits.{bytes_of}
use Rattle.recognised.proofs.Words.{plains-brief, fresh-words, answered}
use Rattle.recognised.proofs.plain.by_words.Goals as goal

pub passes-requires : goal.passes-requires
passes-requires c = (c.requires.0, c.requires.1, c.requires.2, c.requires.4.edge, plains-brief c.args.n _ _ (omega (arith, c.requires.0.header.few)) c.requires.4.plain, fresh-words)

pub returns : goal.returns
returns c = answered c.args.plan.now (bytes_of c.args.plan.now (λ i. (c.type_inv.plan i).fits)) c.requires.0 c.args.n c.args.e c.requires.1 c.requires.2 _ _ _ c.requires.4.plain _ c.requires.3 c.passes.ensures c.same_rows.ensures

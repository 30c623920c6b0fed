use Rattle.recognised.proofs.Sits.{bytes_of}
use Rattle.recognised.proofs.Matrix.{refused}
use Rattle.recognised.proofs.Cells.{tells_false}
use Rattle.recognised.proofs.claims.stands.Goals as goal

pub returns-then-not-apart : goal.returns-then-not-apart
returns-then-not-apart c = tells_false (refused c.args.plan.now (bytes_of c.args.plan.now (λ i. (c.type_inv.plan i).fits)) c.requires.0 c.args.n c.args.e c.requires.1 c.requires.2 _ _ (c.apart.ensures.wrong c.if-not-apart.true))

pub by_words-requires : goal.by_words-requires
by_words-requires c = (c.requires.0, c.requires.1, c.requires.2, c.apart.ensures.right c.if-not-apart.false, c.requires.3 c.if-short.true)

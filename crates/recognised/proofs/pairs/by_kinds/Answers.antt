use Rattle.recognised.proofs.Sits.{bytes_of}
use Rattle.recognised.proofs.Matrix.{blank-fresh, answered}
use Rattle.recognised.proofs.pairs.by_kinds.Goals as goal

pub steps-requires : goal.steps-requires
steps-requires c = (c.requires.0, c.requires.1, c.requires.2, rw c.new-m.ensures.kinds (blank-fresh _))

pub returns : goal.returns
returns c = answered c.args.plan.now (bytes_of c.args.plan.now (λ i. (c.type_inv.plan i).fits)) c.requires.0 c.args.n c.args.e c.requires.1 c.requires.2 _ _ _ _ _ c.requires.3 c.steps.ensures c.fair_rows.ensures

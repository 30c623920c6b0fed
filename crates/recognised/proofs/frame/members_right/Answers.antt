use Rattle.std.proofs.Common.{rules}
use Rattle.recognised.specs.Facts.{MemberRight}
use Rattle.recognised.proofs.Cells.{all-tells, tells_yes, tells_no}
use Rattle.recognised.proofs.frame.members_right.Goals as goal

pub returns : goal.returns
returns c = all-tells _ _ _ (MemberRight c.args.plan.now) c.all.ensures.ran (λ x q k. search (rules, tells_yes)) (λ x q k. search (rules, tells_no))

use Rattle.std.proofs.Common.{sym}
use Rattle.recognised.proofs.Main.{image-members, image-edges}
use Rattle.recognised.proofs.Answers.{no-image}
use Rattle.recognised.proofs.Complete.{header}
use Rattle.recognised.proofs.recognise.Goals as goal
use Rattle.recognised.proofs.recognise.Goals.{then-not-members_right-via-then-not-members_right, then-not-members_right-via-else-not-members_right+then-not-edges_right}

pub returns-then-not-header : goal.returns-then-not-header
returns-then-not-header c = sym (no-image c.args.plan.now (λ I. c.header.ensures.wrong c.if-not-header.true (header c.args.plan.now I)))

pub returns-then-not-members_right : goal.returns-then-not-members_right
returns-then-not-members_right c = sym (no-image c.args.plan.now (λ I. elim c.then-not-members_right.branch [
  | then-not-members_right-via-then-not-members_right w ↦ c.members_right.ensures.wrong w.if-not-members_right.true (image-members c.args.plan.now _ _ c.number-n.ensures c.number-e.ensures I)
  | then-not-members_right-via-else-not-members_right+then-not-edges_right w ↦ w.edges_right.ensures.wrong w.if-not-edges_right.true (image-edges c.args.plan.now _ _ c.number-n.ensures c.number-e.ensures I)
]))

use Rattle.std.proofs.Common.{sym, ◌∙◌}
use Rattle.recognised.proofs.Sits.{bytes_of}
use Rattle.recognised.proofs.Cells.{tells-eq}
use Rattle.recognised.proofs.Matrix.{target-yes, target-no}
use Rattle.recognised.proofs.lists.TargetsListing.stands.Goals as goal

pub returns : goal.returns
returns c = let B = bytes_of c.args.plan.now (λ i. (c.type_inv.plan i).fits) in
    tells-eq _ _
    (λ e. target-yes c.args.plan.now B c.args.place c.args.k c.args.t c.requires.0 (sym c.field.ensures ∙ e))
    (λ S. c.field.ensures ∙ target-no c.args.plan.now B c.args.place c.args.k c.args.t c.requires.0 c.requires.2 S)

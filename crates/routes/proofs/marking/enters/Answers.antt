use Rattle.std.proofs.Common.{ap, sym, ◌∙◌, eqb}
use borrow.Author.Tests.{ne_eqb}
use Rattle.basis.specs.Choice.{not}
use Rattle.routes.proofs.Marks.{enters-by, enters-not, is_marked, marks-at}
use Rattle.routes.proofs.marking.enters.Goals as goal

pub returns-then-from-at : goal.returns-then-from-at
returns-then-from-at c =
    c.ne.ensures ∙ is_marked _ ∙ ap (λ x. not (eqb x 0)) (sym (marks-at c.args.marks.now c.args.e))
    ∙ enters-by _ _ _ _ _ c.from.ensures c.if-from-at.true

pub returns-else-from-at : goal.returns-else-from-at
returns-else-from-at c = ne_eqb _ _ c.if-from-at.false ∙ enters-not _ _ _ _ _ c.from.ensures c.if-from-at.false

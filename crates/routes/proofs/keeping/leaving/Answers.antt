use Rattle.std.proofs.Common.{◌∙◌, ne_eqb}
use Rattle.routes.proofs.Trails.{leaving-kept, leaving-not}
use Rattle.routes.proofs.keeping.leaving.Goals as goal

pub returns-then-from-member : goal.returns-then-from-member
returns-then-from-member c = leaving-kept _ _ _ _ _ c.from.ensures c.if-from-member.true

pub returns-else-from-member : goal.returns-else-from-member
returns-else-from-member c = ne_eqb _ _ c.if-from-member.false ∙ leaving-not _ _ _ _ _ c.from.ensures c.if-from-member.false

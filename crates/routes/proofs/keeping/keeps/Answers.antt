use Rattle.std.proofs.Common.{sym, ne_eqb}
use Rattle.routes.proofs.Trails.{keep-late, keep-by}
use Rattle.routes.proofs.keeping.keeps.Goals as goal

pub returns-then-d-eq0 : goal.returns-then-d-eq0
returns-then-d-eq0 c = keep-by _ _ _ _ _ c.if-d-eq0.true c.no_delay.ensures

pub returns-else-d-eq0 : goal.returns-else-d-eq0
returns-else-d-eq0 c = rw (ne_eqb _ _ c.if-d-eq0.false) (sym (keep-late _ _ _ _ c.if-d-eq0.false))

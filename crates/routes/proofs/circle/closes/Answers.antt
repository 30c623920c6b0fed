use Rattle.std.proofs.Common.{◌∙◌, eq-eqb, arith}
use Rattle.routes.proofs.Sized.{walk-long}
use Rattle.routes.proofs.Closed.{closes-none, closes-some}
use Rattle.routes.proofs.circle.closes.Goals as goal

pub returns-then-walk-ne0 : goal.returns-then-walk-ne0
returns-then-walk-ne0 c = c.closing.ensures ∙ closes-some c.args.plan.now _ _ (walk-long c.args.walk _ c.well_formed.1.0) (omega arith) c.if-walk-ne0.true

pub returns-else-walk-ne0 : goal.returns-else-walk-ne0
returns-else-walk-ne0 c = rw (eq-eqb _ _ c.if-walk-ne0.false) (closes-none c.args.plan.now _ _ (walk-long c.args.walk _ c.well_formed.1.0) (omega arith) c.if-walk-ne0.false)

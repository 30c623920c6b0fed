use Rattle.std.proofs.Common.{Ok, Err, refl, ◌∙◌, arith}
use borrow.Author.Tests.{lt-leb}
use Rattle.plans.specs.Reading.{reading}
use Rattle.routes.proofs.Closed.{accepts-refused, accepts-long, accepts-by}
use Rattle.routes.proofs.Sought.{read-fits, not_zero}
use Rattle.routes.proofs.check_witness.Goals as goal

pub closes-requires : goal.closes-requires
closes-requires c = (read-fits _ _ c.in-Ok.ensures, omega arith)

pub returns-then-walk-le-MOST : goal.returns-then-walk-le-MOST
returns-then-walk-le-MOST c = accepts-by _ _ (reading (Ok c.in-Ok.plan)) _ c.in-Ok.ensures refl (omega arith) c.closes.ensures

pub returns-else-walk-le-MOST : goal.returns-else-walk-le-MOST
returns-else-walk-le-MOST c = lt-leb _ _ (omega arith) ∙ accepts-long c.args.bytes.now c.args.walk (omega arith)

pub returns-in-Err : goal.returns-in-Err
returns-in-Err c = accepts-refused _ _ (reading (Err c.in-Err.field-0)) c.in-Err.ensures (not_zero c.in-Err.field-0)

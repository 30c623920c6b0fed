use Rattle.std.proofs.Common.{sym, arith}
use Rattle.routes.proofs.Closed.{after_last, after_more}
use Rattle.routes.proofs.circle.after.Goals as goal

pub returns-then-k-n : goal.returns-then-k-n
returns-then-k-n c = record { place = sym (after_last _ _ c.if-k-n.true); below = omega arith }

pub returns-else-k-n : goal.returns-else-k-n
returns-else-k-n c = record { place = sym (after_more _ _ c.if-k-n.false); below = omega arith }

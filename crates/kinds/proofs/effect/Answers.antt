use Rattle.std.proofs.Common.{arith}
use Rattle.members.proofs.Typed.{typed}
use Rattle.kinds.proofs.Ties.{few}
use Rattle.kinds.proofs.Effects.{no-abort, keep-done, complete_done, known, deliver-done}
use Rattle.kinds.proofs.effect.Goals as goal

-- `kinds::effect` meets its contract.

pub complete-requires : goal.complete-requires
complete-requires c = (omega (arith, c.requires.0.few-members), omega (arith, c.requires.1), few _ c.requires.0 c.args.s _ c.requires.1 c.requires.2 c.args.i c.requires.3)

pub deliver-requires : goal.deliver-requires
deliver-requires c = (c.requires.0, c.requires.1, c.requires.2, known _ c.requires.0 c.args.s _ c.requires.1 c.requires.2 (typed c.args.s _ c.well_formed.1.0).whole c.args.i _ _ _ (rw c.in-Payload.is at c.requires.4))

pub returns-in-Complete : goal.returns-in-Complete
returns-in-Complete c = rw c.in-Complete.is (complete_done _ c.requires.0 c.args.s _ c.requires.1 c.requires.2 (typed c.args.s _ c.well_formed.1.0).whole c.args.i _ _ _ c.requires.3 c.complete.ensures)

pub returns-in-Payload : goal.returns-in-Payload
returns-in-Payload c = rw c.in-Payload.is (deliver-done _ c.requires.0 c.args.s _ c.requires.1 c.requires.2 (typed c.args.s _ c.well_formed.1.0).whole c.args.i _ _ _ (rw c.in-Payload.is at c.requires.4) _ _ c.deliver.ensures)

pub returns-in_default : goal.returns-in_default
returns-in_default c = keep-done _ c.requires.0 c.args.s _ c.requires.1 c.requires.2 (typed c.args.s _ c.well_formed.1.0).whole c.args.i c.args.q _ c.requires.3 c.in_default.not-Complete c.in_default.not-Payload (no-abort _ _ c.args.i c.args.q c.requires.4) c.keep.ensures

use Rattle.delays.proofs.Plans.{direct-held, minimum-held}
use Rattle.delays.proofs.minimum_delays.Goals as goal

pub returns : goal.returns
returns c = minimum-held c.args.p c.requires _ _ _ _ (direct-held c.args.p _ _ c.spread.ensures) c.close.ensures

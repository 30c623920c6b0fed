use Rattle.delays.proofs.Plans.{direct-held}
use Rattle.delays.proofs.direct_delays.Goals as goal

pub returns : goal.returns
returns c = direct-held c.args.p _ _ c.spread.ensures

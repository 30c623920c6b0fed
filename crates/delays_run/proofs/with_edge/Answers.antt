use Rattle.delays_run.proofs.Grown.{grown}
use Rattle.delays_run.proofs.with_edge.Goals as goal

pub returns : goal.returns
returns c = grown c.args.p c.args.s c.args.t c.args.d _ c.requires.0 c.requires.1 c.requires.2 c.requires.3

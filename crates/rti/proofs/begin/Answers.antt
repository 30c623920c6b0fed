use Rattle.rti.proofs.Opening.{fresh-state, fresh-slab}
use mathlib.Core.Path.{sym, ◌∙◌}
use Rattle.rti.proofs.begin.Goals as goal

pub returns : goal.returns
returns c = (c.fresh.ensures ∙ sym (fresh-state c.args.n c.args.identity c.requires.0), c.clear.ensures ∙ sym (fresh-slab c.args.n c.args.identity c.args.slab.now))

use Rattle.std.proofs.Common.{rules}
use Rattle.members.specs.Rules.{earliest_at}
use Rattle.members.proofs.earliest_all.Goals as goal

pub returns : goal.returns
returns c = c.tags_of.ensures (earliest_at c.args.s.now c.args.slab.now) (λ k t l p. let h = c.requires.2.at k l in search rules)

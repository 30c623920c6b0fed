use Rattle.std.proofs.Common.{rules, get_or}
use Rattle.states.specs.Records.{blank_record}
use Rattle.members.specs.Rules.{completed_at}
use Rattle.members.proofs.Steps.{or-never}
use Rattle.members.proofs.completed_all.Goals as goal

pub returns : goal.returns
returns c = c.tags_of.ensures (completed_at c.args.s.now) (λ k t l p. search (rules, or-never (get_or c.args.s.now.members k blank_record).completed))

use Rattle.std.proofs.Common.{ℕ, get_or, rules}
use Rattle.tags.specs.declared.Tag.TheVariants.{Never}
use Rattle.states.specs.Rules.{past}
use Rattle.rows.specs.Rows.{direct_source, direct_delay}
use Rattle.members.specs.Rules.{done_in, least_in}
use Rattle.members.proofs.done.Goals as goal

pub returns : goal.returns
unfolding done_in least_in
returns c =
    let e = c.least_over.ensures (λ (k : ℕ). past (direct_delay c.args.plan.now k) (get_or c.args.completed.now (direct_source c.args.plan.now k) Never)) (λ k t p. search rules) in
    cc

use Rattle.std.proofs.Common.{ℕ, get_or, rules}
use Rattle.tags.specs.Tags.{delayed}
use Rattle.tags.specs.declared.Tag.TheVariants.{Never}
use Rattle.rows.specs.Rows.{transitive_source, transitive_delay}
use Rattle.members.specs.Rules.{coming_in, least_in}
use Rattle.members.proofs.coming.Goals as goal

pub returns : goal.returns
unfolding coming_in least_in
returns c =
    let e = c.least_over.ensures (λ (k : ℕ). delayed (get_or c.args.earliest.now (transitive_source c.args.plan.now k) Never) (transitive_delay c.args.plan.now k)) (λ k t p. search rules) in
    cc

use Rattle.std.proofs.Common.{rules, tests, arith, ◌∙◌}
use Rattle.std.proofs.lemmas.Iterator.{YieldsList-from_range}
use Rattle.std.proofs.lemmas.Iterator.Search.{all_from_yields_List}
use Rattle.rows.specs.Nets.{net_in}
use Rattle.members.specs.Formed.{formed_at}
use Rattle.members.proofs.Every.{every-range}
use Rattle.members.proofs.all_formed.Goals as goal

pub returns : goal.returns
unfolding formed_at net_in
returns c =
    let test = formed_at (net_in c.args.plan.now) c.args.s.now c.args.slab.now in
    all_from_yields_List test _ _ c.all.result c.all.ensures.ran (YieldsList-from_range 0 c.args.n c.args.n (search rules) (omega arith)) (λ x b q k. search (rules, tests))
    ∙ every-range test c.args.n

use Rattle.std.proofs.Common.{rules, arith, ◌∙◌}
use Rattle.std.proofs.lemmas.Iterator.{YieldsList-from_range}
use Rattle.std.proofs.lemmas.Iterator.Consumers.{YieldsList-from_filter, count_from_yields_List}
use Rattle.image.proofs.Counts.{range-counted}
use Rattle.image.proofs.count.Goals as goal

pub returns : goal.returns
returns g c =
    count_from_yields_List c.filter.result _ c.count.ensures.ran
    (YieldsList-from_filter _ (g.L.Listing.listed c.args.m.now.kinds c.args.t) (YieldsList-from_range 0 _ c.args.n c.filter.ensures.source (omega arith)) c.filter.ensures.closure (λ x r q k. search rules))
    ∙ range-counted _ _

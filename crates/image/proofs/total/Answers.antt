use Rattle.std.proofs.Common.{ℕ, rules, arith, ◌∙◌}
use Rattle.std.proofs.lemmas.Iterator.{YieldsList-from_range, YieldsList-from_map}
use Rattle.std.proofs.lemmas.Iterator.Consumers.{sum_from_yields_List, fits_from_yields_list}
use Rattle.image.specs.Writing.{counted}
use Rattle.image.proofs.Counts.{range-summed, lists-few}
use Rattle.image.proofs.total.Goals as goal

pub sum-requires-clause-fits : goal.sum-requires-clause-fits
sum-requires-clause-fits g c =
    fits_from_yields_list c.map.result _
    (YieldsList-from_map _ (λ (t : ℕ). counted (g.L.Listing.listed c.args.m.now.kinds t) c.args.n) (YieldsList-from_range 0 _ c.args.n c.map.ensures.source (omega arith)) c.map.ensures.closure (λ x r q k. search rules))
    (omega (arith, range-summed (λ (t : ℕ). counted (g.L.Listing.listed c.args.m.now.kinds t) c.args.n) c.args.n, lists-few (g.L.Listing.listed c.args.m.now.kinds) c.args.n c.requires))

pub returns : goal.returns
returns g c =
    sum_from_yields_List c.map.result _ c.sum.ensures.ran
    (YieldsList-from_map _ (λ (t : ℕ). counted (g.L.Listing.listed c.args.m.now.kinds t) c.args.n) (YieldsList-from_range 0 _ c.args.n c.map.ensures.source (omega arith)) c.map.ensures.closure (λ x r q k. search rules))
    ∙ range-summed _ _

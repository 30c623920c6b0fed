use Rattle.std.proofs.Common.{rules, ◌≡◌, ◌∙◌, refl, arith, tests}
use Rattle.std.proofs.lemmas.Iterator.{YieldsList-from_range}
use Rattle.std.proofs.lemmas.Iterator.Search.{any_from_yields_List}
use Rattle.std.specs.List.{list_any, range_with_len}
use Rattle.tags.specs.Tags.{same_tag}
use Rattle.transit.specs.Words.{slot_at}
use Rattle.kinds.proofs.Searches.{any-holds}
use Rattle.kinds.proofs.holds_in.Goals as goal

pub returns : goal.returns
returns c =
    let h : c.any.result ≡ list_any (λ i. same_tag c.args.t (slot_at i c.args.s.now)) (range_with_len 0 c.args.count) =
    any_from_yields_List (λ i. same_tag c.args.t (slot_at i c.args.s.now)) _ _ c.any.result c.any.ensures.ran (YieldsList-from_range 0 c.args.count c.args.count refl (omega arith)) (λ x b q k. search (rules, tests)) in
    h ∙ any-holds c.args.t c.args.s.now c.args.count 0 c.args.count (omega arith) (omega arith)

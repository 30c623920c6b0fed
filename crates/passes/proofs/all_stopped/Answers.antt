use Rattle.std.proofs.Common.{rules, tests, take, arith, ◌∙◌}
use Rattle.std.proofs.lemmas.List.{length-take}
use Rattle.std.proofs.lemmas.Iterator.{YieldsList-from_slice}
use Rattle.std.proofs.lemmas.Iterator.Search.{all_from_yields_List}
use Rattle.states.specs.declared.MemberState.{MemberState}
use Rattle.states.specs.Records.{blank_record}
use Rattle.states.proofs.Every.{every-all}
use Rattle.passes.proofs.all_stopped.Goals as goal

pub returns : goal.returns
returns c =
    all_from_yields_List (λ (m : MemberState). m.stopped) _ _ c.all.result c.all.ensures.ran (YieldsList-from_slice (take c.args.n c.args.s.now.members) (search rules)) (λ x b q k. search (rules, tests))
    ∙ every-all (λ (m : MemberState). m.stopped) c.args.s.now.members blank_record c.args.n (omega (arith, length-take c.args.n c.args.s.now.members))

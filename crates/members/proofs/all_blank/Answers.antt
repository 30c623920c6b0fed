use Rattle.std.proofs.Common.{rules, tests, ◌-◌, take, drop, arith, ◌∙◌}
use Rattle.std.proofs.lemmas.Iterator.{YieldsList-from_slice}
use Rattle.std.proofs.lemmas.Iterator.Search.{all_from_yields_List}
use Rattle.members.specs.Formed.{is_blank}
use Rattle.members.proofs.Every.{every-rest}
use Rattle.members.proofs.all_blank.Goals as goal

pub returns : goal.returns
returns c =
    all_from_yields_List is_blank _ _ c.all.result c.all.ensures.ran (YieldsList-from_slice (take (32 - c.args.n) (drop c.args.n c.args.s.now.members)) (search rules)) (λ x b q k. search (rules, tests))
    ∙ every-rest c.args.s.now c.args.n (omega arith)

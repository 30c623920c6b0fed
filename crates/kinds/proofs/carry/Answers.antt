use Rattle.std.proofs.Common.{ap, refl, ◌∙◌}
use Rattle.kinds.proofs.Changes.{offset_said, microstep_said, carrying}
use Rattle.kinds.proofs.carry.Goals as goal

pub returns : goal.returns
returns c =
    carrying c.args.s.now _ c.args.j c.args.room c.args.t _ _ _ _ _ _ _ (ap (λ w. w.offset) c.words-w.ensures ∙ offset_said c.args.t) (ap (λ w. w.microstep) c.words-w.ensures ∙ microstep_said c.args.t)
    c.insert_for-stored.ensures c.unwrap_or.ensures c.carrying.ensures refl

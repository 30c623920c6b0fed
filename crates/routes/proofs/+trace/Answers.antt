use Rattle.std.proofs.Common.{◌≡◌, get_or, sym, refl, arith, rules}
use Rattle.delays.proofs.Search.{finds_some}
use Rattle.routes.specs.declared.marking.Mark.TheVariants.{Not, Alone}
use Rattle.routes.specs.Paths.{marks_of}
use Rattle.routes.proofs.Marks.{alone-at, alone-not}
use Rattle.routes.proofs.Traces.{back-edge, back_some, back_on, written_one, written-more}
use Rattle.routes.proofs.+trace.Goals as goal

-- `back-edge` gives the edge that is found, `back_some` that some are left.
pub unwrap-e-requires : goal.unwrap-e-requires
unwrap-e-requires t c =
    let s = c.args in
    finds_some _ c.entering.ensures (back-edge s.plan.now.sources s.plan.now.targets (marks_of s.marks.now) s.at s.left c.requires.1 _ refl).inside

pub returns-then-eq : goal.returns-then-eq
returns-then-eq t c =
    let s = c.args in
    let found = rw c.unwrap-e.ensures at c.entering.ensures in
    let edge = back-edge s.plan.now.sources s.plan.now.targets (marks_of s.marks.now) s.at s.left c.requires.1 c.unwrap-e.result (sym found.1) in
    let some = back_some s.plan.now.sources s.plan.now.targets (marks_of s.marks.now) s.at s.left c.requires.1 in
    let alone : get_or s.marks.now c.unwrap-e.result Not ≡ Alone = search rules in
    written_one s.plan.now.sources s.plan.now.targets (marks_of s.marks.now) s.out.now s.at s.left c.unwrap-e.result edge some c.requires.0 (omega arith) (alone-at s.marks.now c.unwrap-e.result alone)

pub overflow_sub-left : goal.overflow_sub-left
overflow_sub-left t c =
    let s = c.args in
    back_some s.plan.now.sources s.plan.now.targets (marks_of s.marks.now) s.at s.left c.requires.1

pub trace-k-requires : goal.trace-k-requires
trace-k-requires t c =
    let s = c.args in
    let found = rw c.unwrap-e.ensures at c.entering.ensures in
    let edge = back-edge s.plan.now.sources s.plan.now.targets (marks_of s.marks.now) s.at s.left c.requires.1 c.unwrap-e.result (sym found.1) in
    let some = back_some s.plan.now.sources s.plan.now.targets (marks_of s.marks.now) s.at s.left c.requires.1 in
    let other : get_or s.marks.now c.unwrap-e.result Not ≡ Alone → ⊥ = λ z. search rules in
    (omega arith, (omega arith, rw c.from.ensures (back_on s.plan.now.sources s.plan.now.targets (marks_of s.marks.now) s.at s.left c.requires.1 c.unwrap-e.result edge (alone-not s.marks.now c.unwrap-e.result other))))

pub returns : goal.returns
returns t c =
    let s = c.args in
    let found = rw c.unwrap-e.ensures at c.entering.ensures in
    let edge = back-edge s.plan.now.sources s.plan.now.targets (marks_of s.marks.now) s.at s.left c.requires.1 c.unwrap-e.result (sym found.1) in
    let some = back_some s.plan.now.sources s.plan.now.targets (marks_of s.marks.now) s.at s.left c.requires.1 in
    let other : get_or s.marks.now c.unwrap-e.result Not ≡ Alone → ⊥ = λ z. search rules in
    written-more s.plan.now.sources s.plan.now.targets (marks_of s.marks.now) s.out.now s.at s.left c.unwrap-e.result edge some c.requires.0 _ _ (omega arith) (alone-not s.marks.now c.unwrap-e.result other) (rw c.from.ensures at c.trace-k.ensures)

-- A reason says which refusal it is, so an outcome is known from what is said of it.
-- Assumes nothing.
use mathlib.Core.Path.{◌≡◌, refl, sym, ap, ◌∙◌}
use lib.Dec.{eqb}
use Rattle.std.specs.Prelude.{Result, Ok, Err}
use Rattle.basis.specs.Choice.{pick}
use Rattle.plans.specs.declared.Plan.{Plan}
use Rattle.plans.specs.declared.Refusal.{Refusal}
use Rattle.plans.specs.declared.Refusal.TheVariants.{Malformed, TooManyMembers, TooManyEdges, Capacity, MemberTwice, EdgeTwice, Undeclared, ZeroCycle, TooFar, TooShort}
use Rattle.plans.specs.Numbers.{Reason, reason_of}
use Rattle.plans.specs.Reading.{Reading, reading, blank_plan}

-- the way back: an outcome from its reason, and from the answer where it is not refused
abbrev pub back : {A : Type 0} → Reason → A → Result A Refusal
back r x =
    pick (eqb r.number 0) (Ok x)
    (pick (eqb r.number 1) (Err Malformed)
    (pick (eqb r.number 2) (Err TooManyMembers)
    (pick (eqb r.number 3) (Err TooManyEdges)
    (pick (eqb r.number 4) (Err Capacity)
    (pick (eqb r.number 5) (Err (MemberTwice r.first))
    (pick (eqb r.number 6) (Err (EdgeTwice r.first))
    (pick (eqb r.number 7) (Err (Undeclared r.first r.second))
    (pick (eqb r.number 8) (Err (ZeroCycle r.mask))
    (pick (eqb r.number 9) (Err (TooFar r.first r.second))
    (Err TooShort))))))))))

pub refused-back : {A : Type 0} (r : Refusal) (x : A) → back (reason_of r) x ≡ Err r
refused-back Malformed x = refl
refused-back TooManyMembers x = refl
refused-back TooManyEdges x = refl
refused-back Capacity x = refl
refused-back (MemberTwice id) x = refl
refused-back (EdgeTwice id) x = refl
refused-back (Undeclared edge member) x = refl
refused-back (ZeroCycle mask) x = refl
refused-back (TooFar source target) x = refl
refused-back TooShort x = refl

pub reading-back : (r : Result Plan Refusal) → back (reading r).refusal (reading r).plan ≡ r
reading-back (Ok p) = refl
reading-back (Err r) = refused-back r blank_plan

-- one reading, one outcome
pub reading-one : (f : Reading) (r s : Result Plan Refusal) → reading r ≡ f → reading s ≡ f → r ≡ s
reading-one f r s p q = sym (reading-back r) ∙ ap (λ (x : Reading). back x.refusal x.plan) (p ∙ sym q) ∙ reading-back s

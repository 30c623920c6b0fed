-- What is said of a pair, by its outcomes.
-- Assumes nothing.
use mathlib.Core.Path.{◌≡◌, refl, sym, ap, ◌∙◌}
use mathlib.Core.Logic.{◌⊎◌}
use mathlib.Core.List.{List}
use Prim.Native.Nat.{ℕ, ◌≤◌}
use lib.ListN.{replicate}
use Rattle.std.proofs.Common.{Ok, Err}
use Rattle.std.proofs.lemmas.Bool.{true≢false}
use borrow.Author.Tests.{eq-eqb, ne_eqb}
use Rattle.plans.specs.declared.Plan.{Plan}
use Rattle.plans.specs.declared.Refusal.{Refusal}
use Rattle.plans.specs.Numbers.{Reason, reason_of}
use Rattle.plans.specs.Values.{Fits}
use Rattle.plans.specs.Reading.{Reading, reading, reading_of}
use Rattle.plans.proofs.Right.{reading-fits}
use Rattle.delays.specs.Refusals.{or_else, refusal_of}
use Rattle.delays.proofs.Refusals.{is_refused}
use Rattle.routes.specs.Paths.{Found, found, walk_of, Blank, path_refusal, Sought, Attained}
use Rattle.routes.proofs.Attaining.{zeros, outside}

-- ---- what is read
pub read-fits : (b : List ℕ) (p : Plan) → reading (Ok p) ≡ reading_of b → Fits p
read-fits b p e = rw (← e) at (reading-fits b)

pub not_zero : (r : Refusal) → (reason_of r).number ≡ 0 → ⊥
not_zero r z = true≢false (sym (eq-eqb (reason_of r).number 0 z) ∙ is_refused r)

-- ---- nothing is found
pub refused_blank : (r : Refusal) → Blank (found (Err r))
refused_blank r = record { count = refl; blank = zeros 32 }

pub nowhere_blank : Blank (found (Ok (record { count = 0; edges = replicate 32 0 })))
nowhere_blank = record { count = refl; blank = zeros 32 }

module _ (p : Plan) (s t : ℕ) (q x : Reason) (e : x ≡ q) where
  pub sought_nothing : (r : Found) → (r.refusal ≡ x) × Blank r → (x.number ≡ 0 → ⊥) → Sought p s t q r
  sought_nothing r B d =
      record {
        refusal = B.0 ∙ e;
        refused = λ _. B.1;
        answered = λ z. absurd (d (ap (λ (y : Reason). y.number) e ∙ z));
      }

  pub sought_outside : Fits p → (r : Found) → (r.refusal ≡ x) × Blank r → (p.members ≤ s) ⊎ (p.members ≤ t) → Sought p s t q r
  sought_outside F r B o =
      record {
        refusal = B.0 ∙ e;
        refused = λ _. B.1;
        answered = λ z. outside p F s t (walk_of r) o B.1.count B.1.blank;
      }

-- 1 to 7 first, then 8 and 9
pub refused-first : (b : List ℕ) (r : Reading) → r ≡ reading_of b → (r.refusal.number ≡ 0 → ⊥) → r.refusal ≡ path_refusal b
unfolding path_refusal or_else
refused-first b r e d = rw (← e, ne_eqb r.refusal.number 0 d) refl

pub refused-then : (b : List ℕ) (r : Reading) (s t : ℕ) (f : Found) → r ≡ reading_of b → r.refusal.number ≡ 0
    → Sought r.plan s t (refusal_of r.plan) f → Sought (reading_of b).plan s t (path_refusal b) f
unfolding path_refusal or_else
refused-then b r s t f e z S = rw (← e, eq-eqb r.refusal.number 0 z) S

pub path-refused : (b : List ℕ) (s t : ℕ) (r : Refusal) → reading (Err r) ≡ reading_of b → Attained b s t (found (Err r))
path-refused b s t r e =
    sought_nothing _ s t _ _ (refused-first b (reading (Err r)) e (not_zero r)) (found (Err r)) (refl, refused_blank r) (not_zero r)

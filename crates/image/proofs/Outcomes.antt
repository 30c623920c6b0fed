-- The answers of compiling, and what each leaves.
-- Assumes nothing.
use mathlib.Core.Path.{◌≡◌, refl, sym, ap, subst, ◌∙◌}
use mathlib.Core.Bool.{true, false}
use mathlib.Core.List.{List}
use Prim.Native.Nat.{ℕ, ◌<◌, ◌≤◌}
use native.Mathlib.Nat.{zero-add}
use borrow.Author.Tests.{lt-ltb, le-ltb}
use lib.ListN.{length}
use lib.Dec.{eqb}
use Rattle.std.specs.Prelude.{Ok, Err}
use Rattle.basis.specs.Parts.{replaced}
use Rattle.plans.specs.declared.Plan.{Plan}
use Rattle.plans.specs.declared.Refusal.{Refusal}
use Rattle.plans.specs.declared.Refusal.TheVariants.{Malformed, TooManyMembers, TooManyEdges, Capacity, MemberTwice, EdgeTwice, Undeclared, ZeroCycle, TooFar, TooShort}
use Rattle.plans.specs.Numbers.{no_reason, reason_of}
use Rattle.plans.specs.Reading.{reading, reading_of}
use Rattle.delays.specs.Refusals.{refusal_of}
use Rattle.image.specs.Image.{image_of, total_of}
use Rattle.image.specs.Writing.{Put}
use Rattle.image.specs.Compiling.{Compiled, compiled, refused, fitted, outcome_of, compiled_of, left_of, Outcome}
use Rattle.image.proofs.Sizes.{length-image}

-- a refusal has a number
numbered : (r : Refusal) → eqb (reason_of r).number 0 ≡ false
numbered Malformed = refl
numbered TooManyMembers = refl
numbered TooManyEdges = refl
numbered Capacity = refl
numbered (MemberTwice id) = refl
numbered (EdgeTwice id) = refl
numbered (Undeclared edge member) = refl
numbered (ZeroCycle mask) = refl
numbered (TooFar source target) = refl
numbered TooShort = refl

module _ (p : Plan) (out : List ℕ) where
  -- 10
  pub short : length out < total_of p → Outcome (fitted p (length out)) p out out (compiled (Err TooShort))
  unfolding fitted left_of
  short h = record { says = rw (lt-ltb (length out) (total_of p) h) refl; leaves = rw (lt-ltb (length out) (total_of p) h) refl }

  -- all written
  pub long : {out' : List ℕ} {next n : ℕ} → n ≡ total_of p → total_of p ≤ length out → Put 0 (image_of p) out out' next → Outcome (fitted p (length out)) p out out' (compiled (Ok n))
  unfolding fitted left_of replaced
  long {n = n} e h put =
      record {
        says = rw (le-ltb (length out) (total_of p) h) (ap (λ (k : ℕ). compiled (Ok k)) e);
        leaves = rw (le-ltb (length out) (total_of p) h) (put.placed ∙ rw (zero-add (length (image_of p)), length-image p));
      }

  -- 8 or 9
  pub analysed-out : (r : Refusal) → reason_of r ≡ refusal_of p → Outcome (outcome_of p (length out)) p out out (compiled (Err r))
  unfolding outcome_of left_of
  analysed-out r e =
      let h : eqb (refusal_of p).number 0 ≡ false = subst (λ x. eqb x.number 0 ≡ false) e (numbered r) in
      record { says = rw h (ap refused e); leaves = rw h (sym (rw h)) }

  -- neither
  pub analysed_in : {out' : List ℕ} {c : Compiled} → no_reason ≡ refusal_of p → Outcome (fitted p (length out)) p out out' c → Outcome (outcome_of p (length out)) p out out' c
  unfolding outcome_of
  analysed_in e o = let h : eqb (refusal_of p).number 0 ≡ true = subst (λ x. eqb x.number 0 ≡ true) e refl in rw h o

module _ (b out : List ℕ) where
  -- 1 to 7
  pub read_out : (r : Refusal) → reading (Err r) ≡ reading_of b → Outcome (compiled_of b (length out)) (reading_of b).plan out out (compiled (Err r))
  unfolding compiled_of left_of
  read_out r e =
      let h : eqb (reading_of b).refusal.number 0 ≡ false = subst (λ x. eqb x.refusal.number 0 ≡ false) e (numbered r) in
      record { says = rw h (ap (λ x. refused x.refusal) e); leaves = rw h (sym (rw h)) }

  -- none of them
  pub read_in : {p : Plan} {out' : List ℕ} {c : Compiled} → reading (Ok p) ≡ reading_of b → Outcome (outcome_of p (length out)) p out out' c → Outcome (compiled_of b (length out)) (reading_of b).plan out out' c
  unfolding compiled_of
  read_in {p} {out'} {c} e o =
      let h : eqb (reading_of b).refusal.number 0 ≡ true = subst (λ x. eqb x.refusal.number 0 ≡ true) e refl in
      rw h (subst (λ x. Outcome (outcome_of x.plan (length out)) x.plan out out' c) e o)

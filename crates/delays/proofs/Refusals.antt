-- Laws of the refusals: what is found is below n, and matrices that agree have one judgement.
-- Assumes nothing.
use mathlib.Core.Bool.{Bool, true, false}
use mathlib.Core.Path.{◌≡◌, refl, ap, ap₂}
use mathlib.Core.List.{List}
use Prim.Native.Nat.{ℕ, ◌<◌}
use native.Mathlib.Omega.{arith}
use borrow.Author.Tests.{ltb-true}
use lib.Dec.{ltb, eqb}
use lib.ListN.{get_or}
use Rattle.basis.specs.Choice.{pick, both}
use Rattle.plans.specs.declared.Plan.{Plan}
use Rattle.plans.specs.declared.Refusal.{Refusal}
use Rattle.plans.specs.declared.Refusal.TheVariants.{Malformed, TooManyMembers, TooManyEdges, Capacity, MemberTwice, EdgeTwice, Undeclared, ZeroCycle, TooFar, TooShort}
use Rattle.plans.specs.Numbers.{reason_of}
use Rattle.plans.specs.Values.{Fits}
use Rattle.delays.specs.Graph.{far, minimum_of}
use Rattle.delays.specs.Cells.{grid, Held}
use Rattle.delays.specs.Refusals.{accepted, zero_cycle, too_far_from, first_loop, linked_by, component_of, cycle_of, far_target, far_source, far_of, or_else, judged, refusal_of}
use Rattle.delays.proofs.Search.{first-hit, first-agree, mask-agree}

-- a refusal has a number
pub is_refused : (r : Refusal) → eqb (reason_of r).number 0 ≡ false
is_refused Malformed = refl
is_refused TooManyMembers = refl
is_refused TooManyEdges = refl
is_refused Capacity = refl
is_refused (MemberTwice id) = refl
is_refused (EdgeTwice id) = refl
is_refused (Undeclared edge member) = refl
is_refused (ZeroCycle mask) = refl
is_refused (TooFar s t) = refl
is_refused TooShort = refl

-- the first source has a target
pub target_in : (g : ℕ → ℕ → ℕ) (n s t : ℕ) → s ≡ far_source g n → s < n → t ≡ far_target g n s → t < n
unfolding far_source
target_in g n s t e h f =
    let r : ltb (far_target g n s) n ≡ true = rw e (first-hit (λ (x : ℕ). ltb (far_target g n x) n) 0 n (omega arith)) in
    omega (arith, ltb-true (far_target g n s) n r)

module _ (g h : ℕ → ℕ → ℕ) (n : ℕ) (same : (s t : ℕ) → s < n → t < n → g s t ≡ h s t) where
  loop-agree : first_loop g n ≡ first_loop h n
  unfolding first_loop
  loop-agree = first-agree _ _ n (λ j l. ap (λ (x : ℕ). eqb x 0) (same j j l l)) 0 n (omega arith)

  component-agree : (i : ℕ) → i < n → component_of g n i ≡ component_of h n i
  unfolding component_of linked_by
  component-agree i a =
      mask-agree _ _ n (λ j l. ap₂ (λ (x y : ℕ). both (eqb x 0) (eqb y 0)) (same i j a l) (same j i l a))

  target-agree : (s : ℕ) → s < n → far_target g n s ≡ far_target h n s
  unfolding far_target
  target-agree s a = first-agree _ _ n (λ j l. ap (λ (x : ℕ). eqb x far) (same s j a l)) 0 n (omega arith)

  source-agree : far_source g n ≡ far_source h n
  unfolding far_source
  source-agree = first-agree _ _ n (λ j l. ap (λ (x : ℕ). ltb x n) (target-agree j l)) 0 n (omega arith)

  cycle-agree : cycle_of g n ≡ cycle_of h n
  unfolding cycle_of
  cycle-agree = rw loop-agree (go (ltb (first_loop h n) n) refl)
    where
      go : (b : Bool) → ltb (first_loop h n) n ≡ b → pick b (zero_cycle (component_of g n (first_loop h n))) accepted ≡ pick b (zero_cycle (component_of h n (first_loop h n))) accepted
      go true e = rw (component-agree (first_loop h n) (ltb-true _ _ e)) refl
      go false e = refl

  far-agree : (ids : List ℕ) → far_of g ids n ≡ far_of h ids n
  unfolding far_of
  far-agree ids = rw source-agree (go (ltb (far_source h n) n) refl)
    where
      go : (b : Bool) → ltb (far_source h n) n ≡ b
          → pick b (too_far_from (get_or ids (far_source h n) 0) (get_or ids (far_target g n (far_source h n)) 0)) accepted
          ≡ pick b (too_far_from (get_or ids (far_source h n) 0) (get_or ids (far_target h n (far_source h n)) 0)) accepted
      go true e = rw (target-agree (far_source h n) (ltb-true _ _ e)) refl
      go false e = refl

  -- matrices that agree below n have one judgement
  pub judged-agree : (ids : List ℕ) → judged g ids n ≡ judged h ids n
  unfolding judged
  judged-agree ids = ap₂ or_else cycle-agree (far-agree ids)

pub judged-held : (p : Plan) → Fits p → (ks vs : List ℕ) → Held ks vs (minimum_of p) → judged (grid ks vs) p.ids p.members ≡ refusal_of p
unfolding refusal_of
judged-held p F ks vs H =
    judged-agree (grid ks vs) (minimum_of p) p.members
    (λ s t a b. H.at s t (omega (arith, F.few)) (omega (arith, F.few))) p.ids

-- What the refusals mean: 8 exactly if there is a closed walk of no delay, 9 exactly if there is none and a minimum is too far.
-- Assumes nothing.
use mathlib.Core.Path.{◌≡◌, refl, sym, ap, ◌∙◌}
use mathlib.Core.Logic.{◌⊎◌, ⊎_elim, inl, inr, ◌↔◌, ◌≢◌}
use mathlib.Core.List.{List}
use Prim.Native.Nat.{ℕ, ◌<◌, ◌≤◌, ◌^◌}
use native.Mathlib.Omega.{arith}
use native.Mathlib.Decide.{ℕ_discrete}
use borrow.Author.Tests.{ltb-false, lt-ltb, le-ltb, eqb-true, eqb-false, eq-eqb, ne_eqb}
use lib.Dec.{ltb, eqb}
use lib.ListN.{get_or}
use lib.Pow.{pow_mono}
use Rattle.basis.specs.Choice.{pick, both}
use Rattle.plans.specs.declared.Plan.{Plan}
use Rattle.plans.specs.Numbers.{Reason}
use Rattle.plans.specs.Values.{Fits}
use Rattle.delays.specs.Graph.{far, EdgeOf, minimum_of}
use Rattle.delays.specs.Refusals.{accepted, zero_cycle, too_far_from, first_loop, linked_by, component_of, cycle_of, far_target, far_source, far_of, or_else, judged, refusal_of}
use Rattle.delays.proofs.Walks.{le-or-lt}
use Rattle.delays.proofs.Search.{first-hit, first-least, mask-small}
use Rattle.delays.proofs.Bits.{bit_of, mask-bit, mask-past}
use Rattle.delays.proofs.Cycles.{Quick, hop, hop-on, Linked, Cycles}
use Rattle.delays.proofs.Refusals.{target_in}
use Rattle.delays.proofs.Order.{Strict, NoDelay, cycles-of-plan, no-delay-strict}

-- the three outcomes
pub data Verdict (g : ℕ → ℕ → ℕ) (ids : List ℕ) (n : ℕ) : Type 0 where
  looped : first_loop g n < n → judged g ids n ≡ zero_cycle (component_of g n (first_loop g n)) → Verdict g ids n
  apart : n ≤ first_loop g n → far_source g n < n
      → judged g ids n ≡ too_far_from (get_or ids (far_source g n) 0) (get_or ids (far_target g n (far_source g n)) 0) → Verdict g ids n
  fine : n ≤ first_loop g n → n ≤ far_source g n → judged g ids n ≡ accepted → Verdict g ids n

pub verdict : (g : ℕ → ℕ → ℕ) (ids : List ℕ) (n : ℕ) → Verdict g ids n
unfolding judged or_else cycle_of far_of
verdict g ids n = go (le-or-lt n (first_loop g n)) (le-or-lt n (far_source g n))
  where
    go : (n ≤ first_loop g n) ⊎ (first_loop g n < n) → (n ≤ far_source g n) ⊎ (far_source g n < n) → Verdict g ids n
    go (inr h) y = looped h (rw (lt-ltb (first_loop g n) n h) refl)
    go (inl h) (inr l) = apart h l (rw (le-ltb (first_loop g n) n h, lt-ltb (far_source g n) n l) refl)
    go (inl h) (inl l) = fine h l (rw (le-ltb (first_loop g n) n h, le-ltb (far_source g n) n l) refl)

module _ (g : ℕ → ℕ → ℕ) (n : ℕ) where
  -- the first member with a minimum of 0 to itself, and none before it
  pub loop-found : first_loop g n < n → g (first_loop g n) (first_loop g n) ≡ 0
  unfolding first_loop
  loop-found h = eqb-true _ _ (first-hit (λ (i : ℕ). eqb (g i i) 0) 0 n (omega arith))

  pub loop-before : (i : ℕ) → i < first_loop g n → g i i ≢ 0
  unfolding first_loop
  loop-before i h = eqb-false _ _ (first-least (λ (i : ℕ). eqb (g i i) 0) 0 n i (omega arith) h)

  -- the first target that is too far, and none before it
  pub target_found : (s : ℕ) → far_target g n s < n → g s (far_target g n s) ≡ far
  unfolding far_target
  target_found s h = eqb-true _ _ (first-hit (λ (t : ℕ). eqb (g s t) far) 0 n (omega arith))

  pub target-before : (s t : ℕ) → t < far_target g n s → g s t ≢ far
  unfolding far_target
  target-before s t h = eqb-false _ _ (first-least (λ (t : ℕ). eqb (g s t) far) 0 n t (omega arith) h)

  -- no source before the first has one
  pub source-before : (s t : ℕ) → s < far_source g n → t < n → g s t ≢ far
  unfolding far_source
  source-before s t h l =
      let r : n ≤ far_target g n s = ltb-false _ _ (first-least (λ (x : ℕ). ltb (far_target g n x) n) 0 n s (omega arith) h) in
      target-before s t (omega arith)

linked-only : (g : ℕ → ℕ → ℕ) (i j : ℕ) → (◌≡◌ {A = ℕ} (pick (linked_by g i j) 1 0) 1) ↔ ((g i j ≡ 0) × (g j i ≡ 0))
unfolding linked_by
linked-only g i j = go (ℕ_discrete (g i j) 0) (ℕ_discrete (g j i) 0)
  where
    go : Dec (g i j ≡ 0) → Dec (g j i ≡ 0) → (◌≡◌ {A = ℕ} (pick (both (eqb (g i j) 0) (eqb (g j i) 0)) 1 0) 1) ↔ ((g i j ≡ 0) × (g j i ≡ 0))
    go (yes p) (yes q) = (λ _. (p, q), λ _. simp (eq-eqb (g i j) 0 p, eq-eqb (g j i) 0 q))
    go (yes p) (no q) = (λ e. absurd (omega (arith, simp (eq-eqb (g i j) 0 p, ne_eqb (g j i) 0 q) at e)), λ h. absurd (q h.1))
    go (no p) q = (λ e. absurd (omega (arith, simp (ne_eqb (g i j) 0 p) at e)), λ h. absurd (p h.0))

-- what the mask of 8 says: of the components with a closed walk of no delay, the one with the smallest member
pub record Component (E : ℕ → ℕ → ℕ → Type 0) (mask : ℕ) : Type 0 where
  pub smallest : ℕ
  pub looped : Quick E smallest smallest
  pub least : (i : ℕ) → Quick E i i → smallest ≤ i
  pub members : (j : ℕ) → (bit_of mask j ≡ 1) ↔ Linked E smallest j
  pub fits : mask < 2 ^ 32

-- what the ids of 9 say: the first source that has a minimum too far, and its first target
pub record Apart (p : Plan) (a b : ℕ) : Type 0 where
  pub source : ℕ
  pub target : ℕ
  pub source_in : source < p.members
  pub target_in : target < p.members
  pub source-id : a ≡ get_or p.ids source 0
  pub target-id : b ≡ get_or p.ids target 0
  pub too_far : minimum_of p source target ≡ far
  pub source_first : (s t : ℕ) → s < source → t < p.members → minimum_of p s t ≢ far
  pub target_first : (t : ℕ) → t < target → minimum_of p source t ≢ far

numbered : {r s : Reason} → r ≡ s → r.number ≡ s.number
numbered e = ap (λ (x : Reason). x.number) e

module _ (p : Plan) (F : Fits p) (w : (i : ℕ) → get_or p.delays i 0 < far) where
  C : Cycles (EdgeOf p) (minimum_of p)
  C = cycles-of-plan p F w

  outcome : Verdict (minimum_of p) p.ids p.members
  outcome = verdict (minimum_of p) p.ids p.members

  start : {s t : ℕ} → Quick (EdgeOf p) s t → s < p.members
  start (hop x) = omega (arith, F.from x.at x.inside, x.from)
  start (hop-on x q) = omega (arith, F.from x.at x.inside, x.from)

  -- the first loop is at or before any member on a closed walk of no delay
  loop-least : (i : ℕ) → Quick (EdgeOf p) i i → first_loop (minimum_of p) p.members ≤ i
  loop-least i q =
      ⊎_elim (λ h. h) (λ h. absurd (loop-before (minimum_of p) p.members i h ((C.alone i).1 q)))
      (le-or-lt (first_loop (minimum_of p) p.members) i)

  -- 8 exactly if some closed walk of one or more edges has only zero delays
  pub eight : ((refusal_of p).number ≡ 8) ↔ ((i : ℕ) × Quick (EdgeOf p) i i)
  unfolding refusal_of
  eight = (there outcome, back outcome)
    where
      there : Verdict (minimum_of p) p.ids p.members → (refusal_of p).number ≡ 8 → (i : ℕ) × Quick (EdgeOf p) i i
      there (looped h e) r = (first_loop (minimum_of p) p.members, (C.alone _).0 (loop-found (minimum_of p) p.members h))
      there (apart h l e) r = absurd (omega (arith, numbered e, r))
      there (fine h l e) r = absurd (omega (arith, numbered e, r))

      back : Verdict (minimum_of p) p.ids p.members → ((i : ℕ) × Quick (EdgeOf p) i i) → (refusal_of p).number ≡ 8
      back (looped h e) q = numbered e
      back (apart h l e) q = absurd (omega (arith, loop-least q.0 q.1, start q.1))
      back (fine h l e) q = absurd (omega (arith, loop-least q.0 q.1, start q.1))

  -- the mask is exactly the members linked with the smallest member on a closed walk of no delay
  pub component-right : (refusal_of p).number ≡ 8 → Component (EdgeOf p) (refusal_of p).mask
  unfolding refusal_of component_of
  component-right r = go outcome
    where
      mask : ℕ
      mask = component_of (minimum_of p) p.members (first_loop (minimum_of p) p.members)

      link : (j : ℕ) → j < p.members → (bit_of mask j ≡ 1) ↔ Linked (EdgeOf p) (first_loop (minimum_of p) p.members) j
      link j l =
          let i = first_loop (minimum_of p) p.members in
          let e = mask-bit (linked_by (minimum_of p) i) p.members j l in
          let k = linked-only (minimum_of p) i j in (
            λ z. (C.both i j).0 (k.0 (sym e ∙ z)),
            λ q. e ∙ k.1 ((C.both i j).1 q),
          )

      link-past : (j : ℕ) → p.members ≤ j → (bit_of mask j ≡ 1) ↔ Linked (EdgeOf p) (first_loop (minimum_of p) p.members) j
      link-past j l = (
        λ z. absurd (omega (arith, mask-past (linked_by (minimum_of p) (first_loop (minimum_of p) p.members)) p.members j l, z)),
        λ q. absurd (omega (arith, start q.1)),
      )

      go : Verdict (minimum_of p) p.ids p.members → Component (EdgeOf p) (refusal_of p).mask
      go (looped h e) =
          rw (ap (λ (x : Reason). x.mask) e)
          (record {
            smallest = first_loop (minimum_of p) p.members;
            looped = (C.alone _).0 (loop-found (minimum_of p) p.members h);
            least = loop-least;
            members = λ j. ⊎_elim (λ l. link-past j l) (λ l. link j l) (le-or-lt p.members j);
            fits = omega (arith, mask-small (linked_by (minimum_of p) (first_loop (minimum_of p) p.members)) p.members, pow_mono F.few);
          })
      go (apart h l e) = absurd (omega (arith, numbered e, r))
      go (fine h l e) = absurd (omega (arith, numbered e, r))

  -- 9 exactly if there is no such walk and some minimum is above 2^64-1
  pub nine : ((refusal_of p).number ≡ 9) ↔ (((i : ℕ) → Quick (EdgeOf p) i i → ⊥) × ((s : ℕ) × (t : ℕ) × (s < p.members) × (t < p.members) × (minimum_of p s t ≡ far)))
  unfolding refusal_of
  nine = (there outcome, λ q. back q outcome)
    where
      there : Verdict (minimum_of p) p.ids p.members → (refusal_of p).number ≡ 9
          → ((i : ℕ) → Quick (EdgeOf p) i i → ⊥) × ((s : ℕ) × (t : ℕ) × (s < p.members) × (t < p.members) × (minimum_of p s t ≡ far))
      there (looped h e) r = absurd (omega (arith, numbered e, r))
      there (apart h l e) r =
          let s = far_source (minimum_of p) p.members in
          let t = far_target (minimum_of p) p.members s in
          let b = target_in (minimum_of p) p.members s t refl l refl in
          (λ i q. omega (arith, loop-least i q, start q), (s, t, l, b, target_found (minimum_of p) p.members s b))
      there (fine h l e) r = absurd (omega (arith, numbered e, r))

      back : ((i : ℕ) → Quick (EdgeOf p) i i → ⊥) × ((s : ℕ) × (t : ℕ) × (s < p.members) × (t < p.members) × (minimum_of p s t ≡ far))
          → Verdict (minimum_of p) p.ids p.members → (refusal_of p).number ≡ 9
      back q (looped h e) = absurd (q.0 _ ((C.alone _).0 (loop-found (minimum_of p) p.members h)))
      back q (apart h l e) = numbered e
      back (free, (s, t, a, b, z)) (fine h l e) = absurd (source-before (minimum_of p) p.members s t (omega arith) b z)

  -- its ids are those of the first source and its first target
  pub apart-right : (refusal_of p).number ≡ 9 → Apart p (refusal_of p).first (refusal_of p).second
  unfolding refusal_of
  apart-right r = go outcome
    where
      go : Verdict (minimum_of p) p.ids p.members → Apart p (refusal_of p).first (refusal_of p).second
      go (looped h e) = absurd (omega (arith, numbered e, r))
      go (apart h l e) =
          let s = far_source (minimum_of p) p.members in
          let b = target_in (minimum_of p) p.members s _ refl l refl in
          record {
            source = s;
            target = far_target (minimum_of p) p.members s;
            source_in = l;
            target_in = b;
            source-id = ap (λ (x : Reason). x.first) e;
            target-id = ap (λ (x : Reason). x.second) e;
            too_far = target_found (minimum_of p) p.members s b;
            source_first = source-before (minimum_of p) p.members;
            target_first = target-before (minimum_of p) p.members s;
          }
      go (fine h l e) = absurd (omega (arith, numbered e, r))

  -- a plan that is taken has no closed walk of no delay, and no minimum too far
  pub taken : (refusal_of p).number ≡ 0 → ((i : ℕ) → Quick (EdgeOf p) i i → ⊥) × ((s t : ℕ) → s < p.members → t < p.members → minimum_of p s t ≢ far)
  unfolding refusal_of
  taken r = go outcome
    where
      go : Verdict (minimum_of p) p.ids p.members → ((i : ℕ) → Quick (EdgeOf p) i i → ⊥) × ((s t : ℕ) → s < p.members → t < p.members → minimum_of p s t ≢ far)
      go (looped h e) = absurd (omega (arith, numbered e, r))
      go (apart h l e) = absurd (omega (arith, numbered e, r))
      go (fine h l e) =
          (λ i q. omega (arith, loop-least i q, start q), λ s t a b. source-before (minimum_of p) p.members s t (omega arith) b)

  -- there no delay is a strict order
  pub taken-strict : (refusal_of p).number ≡ 0 → Strict (NoDelay p)
  taken-strict r = no-delay-strict p F w (taken r).0

  -- 0, 8 or 9, and nothing but the number's own fields
  pub only : (refusal_of p ≡ accepted) ⊎ ((refusal_of p ≡ zero_cycle (refusal_of p).mask) ⊎ (refusal_of p ≡ too_far_from (refusal_of p).first (refusal_of p).second))
  unfolding refusal_of
  only = go outcome
    where
      go : Verdict (minimum_of p) p.ids p.members
          → (refusal_of p ≡ accepted) ⊎ ((refusal_of p ≡ zero_cycle (refusal_of p).mask) ⊎ (refusal_of p ≡ too_far_from (refusal_of p).first (refusal_of p).second))
      go (looped h e) = inr (inl (rw e refl))
      go (apart h l e) = inr (inr (rw e refl))
      go (fine h l e) = inl e

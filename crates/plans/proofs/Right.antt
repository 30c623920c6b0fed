-- What is read fits, and means what 01 says.
-- Assumes nothing.
use Prim.Native.Nat.{ℕ, ◌-◌, ◌<◌, ◌≤◌}
use mathlib.Core.Bool.{true}
use mathlib.Core.Path.{◌≡◌, refl, ◌∙◌}
use mathlib.Core.List.{List, ◌∷◌, map}
use native.Mathlib.Decide.{ℕ_discrete}
use native.Mathlib.Omega.{arith}
use borrow.Author.Tests.{eq-eqb, ne_eqb, ltb-true}
use lib.Dec.{eqb}
use lib.ListN.{length, get_or, replicate, length-append, length-replicate, length-map, get_or-append, get_or-map}
use Rattle.std.proofs.lemmas.List.{get_or_default}
use Rattle.basis.specs.Choice.{pick}
use Rattle.plans.specs.declared.Edge.{Edge}
use Rattle.plans.specs.Rows.{member_count, edge_count, member_at, member_id, edge_at}
use Rattle.plans.specs.Refusals.{none as no-refusal, refusal_of, among}
use Rattle.plans.specs.Order.{member_before, edge_before, place}
use Rattle.plans.specs.Reading.{padded, ids_of, members_of, edges_of, plan_from, plan_of, blank_plan, reading_of}
use Rattle.plans.specs.Values.{Fits}
use Rattle.plans.specs.Meaning.{Meant}
use Rattle.plans.proofs.Inserted.{All, none, one, all-at, all-ordered, length-ordered}
use Rattle.plans.proofs.Ascending.{Has, here, there, has-map, has-ordered, ordered-right}
use Rattle.plans.proofs.Comparisons.{members-compare, edges-compare}
use Rattle.plans.proofs.Scans.{clean_all}
use Rattle.plans.proofs.Accepted.{Accepted, accepted}
use Rattle.plans.proofs.Declared.{among_true, capacity-small, members-apart, edges-apart, ends-declared}

all_map : {A : Type 0} (P : ℕ → Type 0) (f : A → ℕ) {l : List A} → All (λ x. P (f x)) l → All P (map f l)
all_map P f none = none
all_map P f (one p a) = one p (all_map P f a)

-- ---- padding
pub length-padded : (k : ℕ) (l : List ℕ) → length l ≤ k → length (padded k l) ≡ k
length-padded k l h = omega (arith, length-append l (replicate (k - length l) 0), length-replicate {A = ℕ} (k - length l) 0)

padded-at : (k : ℕ) (l : List ℕ) (i : ℕ) → i < length l → get_or (padded k l) i 0 ≡ get_or l i 0
padded-at k l i h = get_or-append l (replicate (k - length l) 0) 0 i h

-- a padded list of what rows say, at a row
field_at : {A : Type 0} (k : ℕ) (f : A → ℕ) (l : List A) (i : ℕ) (d : A) → i < length l → get_or (padded k (map f l)) i 0 ≡ f (get_or l i d)
field_at k f l i d h =
    let m : i < length (map f l) = omega (arith, length-map l f) in
    padded-at k (map f l) i m ∙ get_or_default (map f l) i 0 (f d) m ∙ get_or-map f l i d

-- ---- the place of an id that is there
pub placed : (x : ℕ) {l : List ℕ} → Has x l → (place x l < length l) × (get_or l (place x l) 0 ≡ x)
unfolding place
placed x (here {xs = ys}) = rw (eq-eqb x x refl) (omega arith, refl)
placed x (there {x = y} {xs = ys} h) = go (placed x h) (ℕ_discrete y x)
  where
    go : (place x ys < length ys) × (get_or ys (place x ys) 0 ≡ x) → Dec (y ≡ x) → (place x (y ∷ ys) < length (y ∷ ys)) × (get_or (y ∷ ys) (place x (y ∷ ys)) 0 ≡ x)
    go r (yes e) = rw (eq-eqb y x e) (omega arith, e)
    go r (no n) = rw (ne_eqb y x n) (omega (arith, r.0), r.1)

module _ (b : List ℕ) (a : Accepted b) where
  members-long : length (members_of b) ≡ member_count b
  members-long = length-ordered member_before (member_at b) (member_count b)

  edges-long : length (edges_of b) ≡ edge_count b
  edges-long = length-ordered edge_before (edge_at b) (edge_count b)

  ids-long : length (ids_of (members_of b)) ≡ member_count b
  ids-long = length-map (members_of b) (λ m. m.id) ∙ members-long

  -- a declared id stands among the members in order
  declared : (x : ℕ) → among (member_id b) (member_count b) x ≡ true → Has x (ids_of (members_of b))
  declared x e =
      let r = among_true (member_id b) (member_count b) x e in
      rw r.2 at (has-map (λ m. m.id) (has-ordered member_before (member_at b) (member_count b) r.0 r.1))

  -- every edge in order has both ends placed
  places : (f : Edge → ℕ) → ((k : ℕ) → k < edge_count b → among (member_id b) (member_count b) (f (edge_at b k)) ≡ true)
      → (k : ℕ) (d : Edge) → k < edge_count b → (place (f (get_or (edges_of b) k d)) (ids_of (members_of b)) < member_count b)
      × (get_or (ids_of (members_of b)) (place (f (get_or (edges_of b) k d)) (ids_of (members_of b))) 0 ≡ f (get_or (edges_of b) k d))
  places f h k d l =
      let p = all-at (λ x. Has (f x) (ids_of (members_of b))) (edges_of b) k d
      (all-ordered edge_before (λ x. Has (f x) (ids_of (members_of b))) (edge_at b) (edge_count b) (λ j m. declared _ (h j m)))
      (omega (arith, edges-long)) in
      let r = placed (f (get_or (edges_of b) k d)) p in
      (omega (arith, r.0, ids-long), r.1)

  -- the plan fits
  plan-fits : Fits (plan_of b)
  unfolding plan_from
  plan-fits =
      record {
        few = a.few;
        routed = a.routed;
        ids = length-padded 32 (ids_of (members_of b)) (omega (arith, ids-long, a.few));
        capacities = length-padded 32 (map (λ m. m.capacity) (members_of b)) (omega (arith, length-map (members_of b) (λ m. m.capacity), members-long, a.few));
        routes = all_edges (λ x. x.id);
        sources = all_edges (λ x. place x.source (ids_of (members_of b)));
        targets = all_edges (λ x. place x.target (ids_of (members_of b)));
        delays = all_edges (λ x. x.delay);
        from = λ k h. rw (field_at 256 (λ x. place x.source (ids_of (members_of b))) (edges_of b) k (edge_at b 0) (omega (arith, edges-long)))
            (places (λ x. x.source) (λ j m. (ends-declared b a j m).0) k (edge_at b 0) h).0;
        to = λ k h. rw (field_at 256 (λ x. place x.target (ids_of (members_of b))) (edges_of b) k (edge_at b 0) (omega (arith, edges-long)))
            (places (λ x. x.target) (λ j m. (ends-declared b a j m).1) k (edge_at b 0) h).0;
        small = λ i h. rw (field_at 32 (λ m. m.capacity) (members_of b) i (member_at b 0) (omega (arith, members-long)))
            (all-at (λ m. m.capacity ≤ 32) (members_of b) i (member_at b 0) (all-ordered member_before (λ m. m.capacity ≤ 32) (member_at b) (member_count b) (capacity-small b a)) (omega (arith, members-long)));
      }
    where
      all_edges : (f : Edge → ℕ) → length (padded 256 (map f (edges_of b))) ≡ 256
      all_edges f = length-padded 256 (map f (edges_of b)) (omega (arith, length-map (edges_of b) f, edges-long, a.routed))

  -- the plan means the rows
  plan-meant : Meant b (plan_of b)
  unfolding plan_from
  plan-meant =
      record {
        members = ordered-right member_before (λ m. m.id) members-compare (member_at b) (member_count b) (members-apart b a);
        edges = ordered-right edge_before (λ x. x.id) edges-compare (edge_at b) (edge_count b) (edges-apart b a);
        membered = refl;
        edged = refl;
        ids = λ i d h. field_at 32 (λ m. m.id) (members_of b) i d (omega (arith, members-long));
        capacities = λ i d h. field_at 32 (λ m. m.capacity) (members_of b) i d (omega (arith, members-long));
        routes = λ k d h. field_at 256 (λ x. x.id) (edges_of b) k d (omega (arith, edges-long));
        delays = λ k d h. field_at 256 (λ x. x.delay) (edges_of b) k d (omega (arith, edges-long));
        sources = λ k d h. back (λ x. x.source) (λ j m. (ends-declared b a j m).0) k d h;
        targets = λ k d h. back (λ x. x.target) (λ j m. (ends-declared b a j m).1) k d h;
      }
    where
      back : (f : Edge → ℕ) → ((k : ℕ) → k < edge_count b → among (member_id b) (member_count b) (f (edge_at b k)) ≡ true) → (k : ℕ) (d : Edge) → k < edge_count b
          → get_or (padded 32 (ids_of (members_of b))) (get_or (padded 256 (map (λ x. place (f x) (ids_of (members_of b))) (edges_of b))) k 0) 0 ≡ f (get_or (edges_of b) k d)
      back f q k d h =
          let r = places f q k d h in
          rw (field_at 256 (λ x. place (f x) (ids_of (members_of b))) (edges_of b) k d (omega (arith, edges-long)))
          (padded-at 32 (ids_of (members_of b)) _ (omega (arith, r.0, ids-long)) ∙ r.1)

blank-fits : Fits blank_plan
unfolding plan_from
blank-fits =
    record {
      few = omega arith;
      routed = omega arith;
      ids = refl;
      capacities = refl;
      routes = refl;
      sources = refl;
      targets = refl;
      delays = refl;
      from = λ k h. absurd (omega arith);
      to = λ k h. absurd (omega arith);
      small = λ k h. absurd (omega arith);
    }

-- whatever is read, its plan fits
pub reading-fits : (b : List ℕ) → Fits (reading_of b).plan
unfolding reading_of
reading-fits b = go (ℕ_discrete (refusal_of b).number 0)
  where
    go : Dec ((refusal_of b).number ≡ 0) → Fits (pick (eqb (refusal_of b).number 0) (plan_of b) blank_plan)
    go (yes z) = rw (eq-eqb (refusal_of b).number 0 z) (plan-fits b (accepted b z))
    go (no n) = rw (ne_eqb (refusal_of b).number 0 n) blank-fits

-- what is not refused has the plan of its bytes
pub reading-taken : (b : List ℕ) → (refusal_of b).number ≡ 0 → (reading_of b).plan ≡ plan_of b
unfolding reading_of
reading-taken b z = rw (eq-eqb (refusal_of b).number 0 z) refl

-- and that means its rows, in order
pub reading-meant : (b : List ℕ) → (reading_of b).refusal.number ≡ 0 → Meant b (reading_of b).plan
unfolding reading_of
reading-meant b z = rw (reading-taken b z) (plan-meant b (accepted b z))

-- ---- by the ids themselves
-- ids strictly ascending
pub ids_ascend : (b : List ℕ) → (reading_of b).refusal.number ≡ 0 → (i j : ℕ) → i < j → j < (reading_of b).plan.members
    → get_or (reading_of b).plan.ids i 0 < get_or (reading_of b).plan.ids j 0
unfolding member_before
ids_ascend b z i j l h =
    let M = reading-meant b z in
    let d = member_at b 0 in
    let m = M.membered in
    omega (arith, M.ids i d (omega arith), M.ids j d (omega arith), ltb-true (get_or (members_of b) i d).id (get_or (members_of b) j d).id (M.members.ascending i j d l (omega arith)))

-- route ids strictly ascending
pub routes_ascend : (b : List ℕ) → (reading_of b).refusal.number ≡ 0 → (i j : ℕ) → i < j → j < (reading_of b).plan.edges
    → get_or (reading_of b).plan.routes i 0 < get_or (reading_of b).plan.routes j 0
unfolding edge_before
routes_ascend b z i j l h =
    let M = reading-meant b z in
    let d = edge_at b 0 in
    let m = M.edged in
    omega (arith, M.routes i d (omega arith), M.routes j d (omega arith), ltb-true (get_or (edges_of b) i d).id (get_or (edges_of b) j d).id (M.edges.ascending i j d l (omega arith)))

-- a plan that is taken gives nothing with its refusal
pub taken_none : (b : List ℕ) → (reading_of b).refusal.number ≡ 0 → (reading_of b).refusal ≡ no-refusal
unfolding reading_of
taken_none b z = (clean_all b).clean z

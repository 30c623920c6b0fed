-- What compiling writes is recognised.
-- Assumes nothing.
use Prim.Native.Nat.{ℕ, zero, suc, ◌+◌, ◌-◌, ◌<◌, ◌≤◌}
use mathlib.Core.Path.{◌≡◌, refl, sym, ap, ◌∙◌}
use mathlib.Core.Bool.{Bool, true, false}
use mathlib.Core.List.{List}
use native.Mathlib.Omega.{arith}
use native.Mathlib.Nat.{add-zero, add-suc, zero-add, suc-add}
use borrow.Author.Tests.{ltb-true, ltb-false, le-ltb}
use lib.Dec.{ltb}
use lib.ListN.{length, get_or}
use lib.Seq.{ext_get_or}
use Rattle.basis.specs.Choice.{pick}
use Rattle.basis.proofs.Numbers.{Bytes}
use Rattle.plans.specs.declared.Plan.{Plan}
use Rattle.plans.specs.Reading.{reading_of}
use Rattle.plans.proofs.Right.{ids_ascend, routes_ascend}
use Rattle.delays.specs.Refusals.{refusal_of}
use Rattle.image.specs.Image.{image_of}
use Rattle.image.specs.Whole.{Unused, Whole}
use Rattle.image.proofs.Injective.{members-back, edges-back, id-back, capacity-back, route_back, source-back, target-back, delay-back}
use Rattle.rows.specs.Rows.{field, member_id, capacity, edge_id, edge_source, edge_target, edge_delay}
use Rattle.rows.specs.Plans.{listed, padded, plan_in}
use Rattle.rows.proofs.Plans.{padded-at, padded-length}
use Rattle.recognised.specs.Recognised.{is_image}
use Rattle.recognised.specs.Facts.{Image}
use Rattle.recognised.proofs.Answers.{yes-image, fine-apart, fine-near}
use Rattle.demands.proofs.Whole.{reading-whole}

-- ---- a padded list, place by place
listed_at : (f : ℕ → ℕ) (i k j : ℕ) → j < k → get_or (listed f i k) j 0 ≡ f (i + j)
unfolding listed
listed_at f i zero j l = absurd (omega arith)
listed_at f i (suc k) zero l = rw (add-zero i) refl
listed_at f i (suc k) (suc j) l = rw (add-suc i j, ← suc-add i j) (listed_at f (suc i) k j (omega arith))

padded-past : (f : ℕ → ℕ) (n k i : ℕ) → n ≤ i → i < k → get_or (padded f n k) i 0 ≡ 0
unfolding padded
padded-past f n k i h l = listed_at (λ (j : ℕ). pick (ltb j n) (f j) 0) 0 k i l ∙ rw (zero-add i, le-ltb i n h) refl

padded-same : (f : ℕ → ℕ) (n k : ℕ) (l : List ℕ) → n ≤ k → length l ≡ k → Unused l n → ((i : ℕ) → i < n → f i ≡ get_or l i 0) → padded f n k ≡ l
padded-same f n k l few long unused same = ext_get_or 0 (padded f n k) l (padded-length f n k ∙ sym long) (λ i h. by-test i (rw (padded-length f n k) at h) (ltb i n) refl)
  where
    by-test : (i : ℕ) → i < k → (x : Bool) → ltb i n ≡ x → get_or (padded f n k) i 0 ≡ get_or l i 0
    by-test i h true e = padded-at f n k i (ltb-true i n e) few ∙ same i (ltb-true i n e)
    by-test i h false e = padded-past f n k i (ltb-false i n e) h ∙ sym (unused.at i (ltb-false i n e))

plan-of : (p : Plan) (m e : ℕ) (a b c d f g : List ℕ) → m ≡ p.members → e ≡ p.edges → a ≡ p.ids → b ≡ p.capacities → c ≡ p.routes → d ≡ p.sources → f ≡ p.targets → g ≡ p.delays
    → ◌≡◌ {A = Plan} (record { members = m; edges = e; ids = a; capacities = b; routes = c; sources = d; targets = f; delays = g }) p
plan-of p m e a b c d f g h1 h2 h3 h4 h5 h6 h7 h8 = rw (h1, h2, h3, h4, h5, h6, h7, h8)

module _ (p : Plan) (w : Whole p) where
  id-of : (i : ℕ) → i < p.members → member_id (image_of p) i ≡ get_or p.ids i 0
  unfolding field
  id-of i h = id-back p w i h

  capacity-of : (i : ℕ) → i < p.members → capacity (image_of p) i ≡ get_or p.capacities i 0
  unfolding field
  capacity-of i h = capacity-back p w i h

  route_of_lem : (k : ℕ) → k < p.edges → edge_id (image_of p) k ≡ get_or p.routes k 0
  unfolding field
  route_of_lem k h = rw (members-back p w) (route_back p w k h)

  source_of : (k : ℕ) → k < p.edges → edge_source (image_of p) k ≡ get_or p.sources k 0
  unfolding field
  source_of k h = rw (members-back p w) (source-back p w k h)

  target-of : (k : ℕ) → k < p.edges → edge_target (image_of p) k ≡ get_or p.targets k 0
  unfolding field
  target-of k h = rw (members-back p w) (target-back p w k h)

  delay-of : (k : ℕ) → k < p.edges → edge_delay (image_of p) k ≡ get_or p.delays k 0
  unfolding field
  delay-of k h = rw (members-back p w) (delay-back p w k h)

  -- the plan in an image is the plan that it is the image of
  pub plan-back : plan_in (image_of p) ≡ p
  unfolding plan_in
  plan-back =
      let f = w.fits in
      plan-of p _ _ _ _ _ _ _ _ (members-back p w) (edges-back p w)
      (ap (λ (n : ℕ). padded (member_id (image_of p)) n 32) (members-back p w) ∙ padded-same (member_id (image_of p)) p.members 32 p.ids f.few f.ids w.no-ids id-of)
      (ap (λ (n : ℕ). padded (capacity (image_of p)) n 32) (members-back p w) ∙ padded-same (capacity (image_of p)) p.members 32 p.capacities f.few f.capacities w.no-capacities capacity-of)
      (ap (λ (n : ℕ). padded (edge_id (image_of p)) n 256) (edges-back p w) ∙ padded-same (edge_id (image_of p)) p.edges 256 p.routes f.routed f.routes w.no-routes route_of_lem)
      (ap (λ (n : ℕ). padded (edge_source (image_of p)) n 256) (edges-back p w) ∙ padded-same (edge_source (image_of p)) p.edges 256 p.sources f.routed f.sources w.no-sources source_of)
      (ap (λ (n : ℕ). padded (edge_target (image_of p)) n 256) (edges-back p w) ∙ padded-same (edge_target (image_of p)) p.edges 256 p.targets f.routed f.targets w.no_targets target-of)
      (ap (λ (n : ℕ). padded (edge_delay (image_of p)) n 256) (edges-back p w) ∙ padded-same (edge_delay (image_of p)) p.edges 256 p.delays f.routed f.delays w.no-delays delay-of)

module _ (b : List ℕ) (B : Bytes b) (z : (reading_of b).refusal.number ≡ 0) (fine : (refusal_of (reading_of b).plan).number ≡ 0) where
  abbrev p : Plan
  p = (reading_of b).plan

  w : Whole p
  w = reading-whole b B

  -- the image of a plan that is read and not refused
  pub compiled_image : Image (image_of p)
  compiled_image =
      let M = members-back p w in
      let E = edges-back p w in
      let f = w.fits in
      record {
        few = rw M f.few;
        routed = rw E f.routed;
        small = λ i l. let h : i < p.members = omega arith in rw (capacity-of p w i h) (f.small i h);
        ids = λ i l h. let m : i < p.members = omega arith in omega (arith, id-of p w (i - 1) (omega arith), id-of p w i m, ids_ascend b z (i - 1) i (omega arith) m);
        routes = λ k l h. let m : k < p.edges = omega arith in omega (arith, route_of_lem p w (k - 1) (omega arith), route_of_lem p w k m, routes_ascend b z (k - 1) k (omega arith) m);
        from = λ k l. let m : k < p.edges = omega arith in omega (arith, source_of p w k m, f.from k m);
        to = λ k l. let m : k < p.edges = omega arith in omega (arith, target-of p w k m, f.to k m);
        apart = λ i l. rw (plan-back p w) (fine-apart p fine i (omega arith));
        near = λ s t a l. rw (plan-back p w) (fine-near p fine s t (omega arith) (omega arith));
        same = ap image_of (sym (plan-back p w));
      }

  -- what compiling writes is recognised
  pub compiled_recognised : is_image (image_of p) ≡ true
  compiled_recognised = yes-image (image_of p) compiled_image

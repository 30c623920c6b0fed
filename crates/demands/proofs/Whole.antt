-- A plan read from bytes is whole; so plan bytes with one image say one plan.
-- Assumes nothing.
use mathlib.Core.Path.{◌≡◌, refl, ap, ◌∙◌}
use mathlib.Core.Bool.{Bool, true, false}
use mathlib.Core.List.{List, [], ◌∷◌, map}
use Prim.Native.Nat.{ℕ, zero, suc, ◌+◌, ◌-◌, ◌*◌, ◌^◌, ◌<◌}
use native.Mathlib.Omega.{arith}
use native.Mathlib.Nat.{pow-zero, pow-succ'}
use borrow.Author.Tests.{ltb-true, ltb-false, eqb-true}
use lib.Dec.{ltb, eqb}
use lib.ListN.{length, get_or, take, drop, replicate, length-map}
use lib.Seq.{get_or-append-add}
use Rattle.basis.specs.Choice.{pick}
use Rattle.basis.specs.Numbers.{number, number_at}
use Rattle.basis.proofs.Numbers.{Bytes}
use Rattle.plans.specs.declared.Member.{Member}
use Rattle.plans.specs.declared.Edge.{Edge}
use Rattle.plans.specs.Values.{Fits}
use Rattle.plans.specs.Rows.{member_count, edge_count, member_at, edge_from, edge_at}
use Rattle.plans.specs.Refusals.{refusal_of}
use Rattle.plans.specs.Order.{place}
use Rattle.plans.specs.Meaning.{Meant}
use Rattle.plans.specs.Reading.{padded, ids_of, members_of, edges_of, plan_from, plan_of, blank_plan, reading_of}
use Rattle.plans.proofs.Right.{reading-fits, reading-taken, reading-meant}
use Rattle.image.specs.Image.{image_of}
use Rattle.image.specs.Whole.{Wide, Unused, Whole}
use Rattle.image.proofs.Injective.{injective}

-- ---- a number of k bytes fits k bytes
bytes_drop : (i : ℕ) (l : List ℕ) → Bytes l → Bytes (drop i l)
bytes_drop zero l h = h
bytes_drop (suc i) [] h = h
bytes_drop (suc i) (x ∷ xs) h = bytes_drop i xs h.1

take-small : (k : ℕ) (l : List ℕ) → Bytes l → number (take k l) < 256 ^ k
unfolding number
take-small zero l h = omega (arith, pow-zero 256)
take-small (suc k) [] h = omega (arith, pow-succ' 256 k, take-small k [] h)
take-small (suc k) (x ∷ xs) h = omega (arith, pow-succ' 256 k, take-small k xs h.1, h.0)

pub at_small : (k i : ℕ) (b : List ℕ) → Bytes b → number_at k i b < 256 ^ k
unfolding number_at
at_small k i b h = take-small k (drop i b) (bytes_drop i b h)

-- ---- padded lists
zeros : (n i : ℕ) → get_or {A = ℕ} (replicate n 0) i 0 ≡ 0
zeros zero i = refl
zeros (suc n) zero = refl
zeros (suc n) (suc i) = zeros n i

pub padded_unused : (k n : ℕ) (l : List ℕ) → length l ≡ n → Unused (padded k l) n
padded_unused k n l e =
    record {
      at = λ i h.
          let split : i ≡ length l + (i - length l) = omega arith in
          ap (λ (j : ℕ). get_or (padded k l) j 0) split ∙ get_or-append-add l (replicate (k - length l) 0) (i - length l) 0 ∙ zeros (k - length l) (i - length l);
    }

wide_of : (l : List ℕ) (n : ℕ) → Unused l n → ((i : ℕ) → i < n → get_or l i 0 < 18446744073709551616) → Wide l
wide_of l n u h = record { at = λ i. by-test i (ltb i n) refl }
  where
    by-test : (i : ℕ) (x : Bool) → ltb i n ≡ x → get_or l i 0 < 18446744073709551616
    by-test i true e = h i (ltb-true i n e)
    by-test i false e = rw (u.at i (ltb-false i n e)) (omega arith)

-- ---- the plan of members and edges in order
unused_all : (ms : List Member) (es : List Edge) (n e : ℕ) → length ms ≡ n → length es ≡ e → Fits (plan_from n e ms es) → Wide (plan_from n e ms es).ids → Wide (plan_from n e ms es).routes → Wide (plan_from n e ms es).delays → Whole (plan_from n e ms es)
unfolding plan_from
unused_all ms es n e lm le fits wi wr wd =
    record {
      fits = fits;
      ids = wi;
      routes = wr;
      delays = wd;
      no-ids = padded_unused 32 n (ids_of ms) (length-map ms (λ m. m.id) ∙ lm);
      no-capacities = padded_unused 32 n (map (λ m. m.capacity) ms) (length-map ms (λ m. m.capacity) ∙ lm);
      no-routes = padded_unused 256 e (map (λ x. x.id) es) (length-map es (λ x. x.id) ∙ le);
      no-sources = padded_unused 256 e (map (λ x. place x.source (ids_of ms)) es) (length-map es (λ x. place x.source (ids_of ms)) ∙ le);
      no_targets = padded_unused 256 e (map (λ x. place x.target (ids_of ms)) es) (length-map es (λ x. place x.target (ids_of ms)) ∙ le);
      no-delays = padded_unused 256 e (map (λ x. x.delay) es) (length-map es (λ x. x.delay) ∙ le);
    }

blank-whole : Fits blank_plan → Whole blank_plan
unfolding plan_from
blank-whole fits =
    unused_all [] [] 0 0 refl refl fits
    (wide_of (padded 32 []) 0 (padded_unused 32 0 [] refl) (λ i h. absurd (omega arith)))
    (wide_of (padded 256 []) 0 (padded_unused 256 0 [] refl) (λ i h. absurd (omega arith)))
    (wide_of (padded 256 []) 0 (padded_unused 256 0 [] refl) (λ i h. absurd (omega arith)))

module _ (b : List ℕ) (h : Bytes b) (z : (refusal_of b).number ≡ 0) where
  meant : Meant b (plan_of b)
  unfolding reading_of
  meant = rw (reading-taken b z) at (reading-meant b z)

  id-small : (j : ℕ) → (member_at b j).id < 18446744073709551616
  unfolding member_at
  id-small j = at_small 8 (24 + 16 * j) b h

  route_small : (j : ℕ) → (edge_at b j).id < 18446744073709551616
  unfolding edge_from
  route_small j = at_small 8 (24 + 16 * member_count b + 32 * j) b h

  delay-small : (j : ℕ) → (edge_at b j).delay < 18446744073709551616
  unfolding edge_from
  delay-small j = at_small 8 (24 + 16 * member_count b + 32 * j + 24) b h

  -- what holds of every given row holds of those in order
  ids-wide : Wide (plan_of b).ids
  unfolding plan_from
  ids-wide =
      let M = meant in
      wide_of (padded 32 (ids_of (members_of b))) (member_count b) (padded_unused 32 (member_count b) (ids_of (members_of b)) (length-map (members_of b) (λ m. m.id) ∙ M.members.count))
      (λ i l.
      let row = M.members.given i (member_at b 0) l in
      rw (M.ids i (member_at b 0) l, row.2) (id-small row.0))

  routes-wide : Wide (plan_of b).routes
  unfolding plan_from
  routes-wide =
      let M = meant in
      wide_of (padded 256 (map (λ x. x.id) (edges_of b))) (edge_count b) (padded_unused 256 (edge_count b) (map (λ x. x.id) (edges_of b)) (length-map (edges_of b) (λ x. x.id) ∙ M.edges.count))
      (λ k l.
      let row = M.edges.given k (edge_at b 0) l in
      rw (M.routes k (edge_at b 0) l, row.2) (route_small row.0))

  delays-wide : Wide (plan_of b).delays
  unfolding plan_from
  delays-wide =
      let M = meant in
      wide_of (padded 256 (map (λ x. x.delay) (edges_of b))) (edge_count b) (padded_unused 256 (edge_count b) (map (λ x. x.delay) (edges_of b)) (length-map (edges_of b) (λ x. x.delay) ∙ M.edges.count))
      (λ k l.
      let row = M.edges.given k (edge_at b 0) l in
      rw (M.delays k (edge_at b 0) l, row.2) (delay-small row.0))

  plan-whole : Fits (plan_of b) → Whole (plan_of b)
  plan-whole fits = unused_all (members_of b) (edges_of b) (member_count b) (edge_count b) meant.members.count meant.edges.count fits ids-wide routes-wide delays-wide

-- whatever bytes are read, their plan is whole
pub reading-whole : (b : List ℕ) → Bytes b → Whole (reading_of b).plan
unfolding reading_of
reading-whole b h = by-test (eqb (refusal_of b).number 0) refl (reading-fits b)
  where
    by-test : (x : Bool) → eqb (refusal_of b).number 0 ≡ x → Fits (pick x (plan_of b) blank_plan) → Whole (pick x (plan_of b) blank_plan)
    by-test true e fits = plan-whole b h (eqb-true (refusal_of b).number 0 e) fits
    by-test false e fits = blank-whole fits

-- plan bytes with one image say one plan
pub read-injective : (b c : List ℕ) → Bytes b → Bytes c → image_of (reading_of b).plan ≡ image_of (reading_of c).plan → (reading_of b).plan ≡ (reading_of c).plan
read-injective b c hb hc e = injective (reading_of b).plan (reading_of c).plan (reading-whole b hb) (reading-whole c hc) e

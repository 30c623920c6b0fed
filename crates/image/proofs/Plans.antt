-- What the writers put, from matrices that hold a plan's delays, is that plan's image.
-- Assumes nothing.
use mathlib.Core.Path.{◌≡◌, refl, sym, ap, ◌∙◌}
use mathlib.Core.Bool.{Bool, true, false}
use mathlib.Core.List.{List, [], ◌∷◌, ◌++◌, append_assoc}
use Prim.Native.Nat.{ℕ, zero, suc, ◌<◌, ◌≤◌}
use native.Mathlib.Omega.{arith}
use lib.Dec.{ltb, leb, eqb}
use lib.ListN.{length}
use Rattle.basis.specs.Choice.{pick, not, both}
use Rattle.plans.specs.declared.Plan.{Plan}
use Rattle.delays.specs.Graph.{far, direct_of, minimum_of}
use Rattle.delays.specs.Cells.{Held, kind_of, word_of}
use Rattle.delays.specs.Lists.{sourced, passing, reached, direct_sources, transitive_sources, downstream}
use Rattle.image.specs.Image.{laid, gathered, first_of, source_row, target_row, member_row, edge_row, member_table, edge_table, direct_table, transitive_table, downstream_table, direct_count, transitive_count, downstream_count, end_at, total_of, image_of}
use Rattle.image.specs.Writing.{Room, held, onward, summed, counted, source_count, target_count, source_bytes, sources_bytes, source_table, target_bytes, targets_bytes, target_table, member_bytes, member_in, members_bytes, edge_bytes, edges_bytes, front_bytes, back_bytes}
use Rattle.image.proofs.Counts.{sources-few, targets-few, sources-all, targets-all}
use Rattle.image.proofs.Sizes.{length-image}
use Rattle.image.proofs.Tables.{laid_one, gathered-same, length-gathered, laid-gathered, laid-up_to}

-- ---- over any row: rows of chosen places, the tables of several places, and how many
module _ {A : Type 0} (row : A → List ℕ) where
  pub only-laid : (b : Bool) (x : A) → pick b (row x) [] ≡ laid row (pick b (x ∷ []) [])
  unfolding laid
  only-laid true x = sym (laid_one row x)
  only-laid false x = refl

  pub table_is : (f : ℕ → List ℕ) (l : ℕ → List A) (n : ℕ) → ((i : ℕ) → i < n → f i ≡ laid row (l i)) → gathered f n ≡ laid row (gathered l n)
  table_is f l n h = gathered-same f (λ (i : ℕ). laid row (l i)) n h ∙ laid-gathered row l n

module _ {A : Type 0} where
  pub only-length : (b : Bool) (x : A) → pick b 1 0 ≡ length (pick b (x ∷ []) [])
  only-length true x = refl
  only-length false x = refl

  pub first-is : (f : ℕ → ℕ) (l : ℕ → List A) (n : ℕ) → ((i : ℕ) → i < n → f i ≡ length (l i)) → summed f n ≡ first_of l n
  unfolding summed first_of
  first-is f l zero h = refl
  first-is f l (suc k) h = rw (first-is f l k (λ i l. h i (omega arith)), h k (omega arith))

  pub count-is : (test here : ℕ → Bool) (x : ℕ → A) (n : ℕ) → ((i : ℕ) → i < n → test i ≡ here i) → counted test n ≡ length (gathered (λ (i : ℕ). pick (here i) (x i ∷ []) []) n)
  unfolding counted
  count-is test here x n h =
      first-is (λ (i : ℕ). pick (test i) 1 0) (λ (i : ℕ). pick (here i) (x i ∷ []) []) n (λ i l. ap (λ (b : Bool). pick b 1 0) (h i l) ∙ only-length (here i) (x i))
      ∙ sym (length-gathered (λ (i : ℕ). pick (here i) (x i ∷ []) []) n)

-- ---- the lists of a plan are of that form
pub sourced-chosen : (f : ℕ → ℕ) (n : ℕ) → gathered (λ (s : ℕ). pick (ltb (f s) far) (record { source = s; delay = f s } ∷ []) []) n ≡ sourced f n
unfolding gathered sourced
sourced-chosen f zero = refl
sourced-chosen f (suc k) = rw (sourced-chosen f k)

pub passing-chosen : (test : ℕ → Bool) (n : ℕ) → gathered (λ (t : ℕ). pick (test t) (t ∷ []) []) n ≡ passing test n
unfolding gathered passing
passing-chosen test zero = refl
passing-chosen test (suc k) = rw (passing-chosen test k)

-- ---- a kind byte says whether there is a delay, and then the word is it
kind-test : (v : ℕ) (b : Bool) → ltb v far ≡ b → eqb (kind_of v) 0 ≡ b
unfolding kind_of
kind-test v true e = rw e
kind-test v false e = rw e (later (leb v far))
  where
    later : (b : Bool) → eqb (pick b 1 2) 0 ≡ false
    later true = refl
    later false = refl

source_row_lem : (s v : ℕ) (b : Bool) → ltb v far ≡ b → pick b (source_row (record { source = s; delay = word_of v })) [] ≡ pick b (source_row (record { source = s; delay = v })) []
unfolding word_of
source_row_lem s v true e = rw e
source_row_lem s v false e = refl

module _ (ks vs : List ℕ) (g : ℕ → ℕ → ℕ) (h : Held ks vs g) where
  held-is : (s t : ℕ) → s < 32 → t < 32 → held ks s t ≡ ltb (g s t) far
  unfolding held
  held-is s t ls lt = rw (h.kinds s t ls lt) (kind-test (g s t) (ltb (g s t) far) refl)

  source_is : (s t : ℕ) → s < 32 → t < 32 → source_bytes ks vs t s ≡ laid source_row (pick (ltb (g s t) far) (record { source = s; delay = g s t } ∷ []) [])
  unfolding source_bytes
  source_is s t ls lt =
      rw (held-is s t ls lt, h.words s t ls lt)
      (source_row_lem s (g s t) (ltb (g s t) far) refl ∙ only-laid source_row (ltb (g s t) far) (record { source = s; delay = g s t }))

  -- direct and transitive rows
  pub sources-are : (n t : ℕ) → n ≤ 32 → t < 32 → sources_bytes ks vs n t ≡ laid source_row (sourced (λ (s : ℕ). g s t) n)
  unfolding sources_bytes
  sources-are n t ln lt =
      table_is source_row (source_bytes ks vs t) (λ (s : ℕ). pick (ltb (g s t) far) (record { source = s; delay = g s t } ∷ []) []) n (λ s l. source_is s t (omega arith) lt)
      ∙ ap (laid source_row) (sourced-chosen (λ (s : ℕ). g s t) n)

  pub source-count-is : (n t : ℕ) → n ≤ 32 → t < 32 → source_count ks n t ≡ length (sourced (λ (s : ℕ). g s t) n)
  unfolding source_count
  source-count-is n t ln lt =
      count-is (λ (s : ℕ). held ks s t) (λ (s : ℕ). ltb (g s t) far) (λ (s : ℕ). record { source = s; delay = g s t }) n (λ s l. held-is s t (omega arith) lt)
      ∙ ap length (sourced-chosen (λ (s : ℕ). g s t) n)

  -- downstream rows
  onward-is : (s t : ℕ) → s < 32 → t < 32 → onward ks s t ≡ both (not (eqb t s)) (ltb (g s t) far)
  unfolding onward
  onward-is s t ls lt = rw (held-is s t ls lt)

  pub targets-are : (n s : ℕ) → n ≤ 32 → s < 32 → targets_bytes ks n s ≡ laid target_row (passing (λ (t : ℕ). both (not (eqb t s)) (ltb (g s t) far)) n)
  unfolding targets_bytes target_bytes
  targets-are n s ln ls =
      let test : ℕ → Bool = λ (t : ℕ). both (not (eqb t s)) (ltb (g s t) far) in
      table_is target_row (target_bytes ks s) (λ (t : ℕ). pick (test t) (t ∷ []) []) n
      (λ t l. ap (λ (b : Bool). pick b (target_row t) []) (onward-is s t ls (omega arith)) ∙ only-laid target_row (test t) t)
      ∙ ap (laid target_row) (passing-chosen test n)

  pub target-count-is : (n s : ℕ) → n ≤ 32 → s < 32 → target_count ks n s ≡ length (passing (λ (t : ℕ). both (not (eqb t s)) (ltb (g s t) far)) n)
  unfolding target_count
  target-count-is n s ln ls =
      let test : ℕ → Bool = λ (t : ℕ). both (not (eqb t s)) (ltb (g s t) far) in
      count-is (onward ks s) test (λ (t : ℕ). t) n (λ t l. onward-is s t ls (omega arith))
      ∙ ap length (passing-chosen test n)

-- ---- the tables of a plan
module _ (p : Plan) (dk dv mk mv : List ℕ) (few : p.members ≤ 32) (direct : Held dk dv (direct_of p)) (minimum : Held mk mv (minimum_of p)) where
  direct-count : (i : ℕ) → i < p.members → source_count dk p.members i ≡ length (direct_sources p i)
  unfolding direct_sources
  direct-count i l = source-count-is dk dv (direct_of p) direct p.members i few (omega arith)

  transitive-count : (i : ℕ) → i < p.members → source_count mk p.members i ≡ length (transitive_sources p i)
  unfolding transitive_sources
  transitive-count i l = source-count-is mk mv (minimum_of p) minimum p.members i few (omega arith)

  downstream-count : (i : ℕ) → i < p.members → target_count mk p.members i ≡ length (downstream p i)
  unfolding downstream reached
  downstream-count i l = target-count-is mk mv (minimum_of p) minimum p.members i few (omega arith)

  pub direct-first : (k : ℕ) → k ≤ p.members → summed (source_count dk p.members) k ≡ first_of (direct_sources p) k
  direct-first k h = first-is (source_count dk p.members) (direct_sources p) k (λ i l. direct-count i (omega arith))

  pub transitive-first : (k : ℕ) → k ≤ p.members → summed (source_count mk p.members) k ≡ first_of (transitive_sources p) k
  transitive-first k h = first-is (source_count mk p.members) (transitive_sources p) k (λ i l. transitive-count i (omega arith))

  pub downstream-first : (k : ℕ) → k ≤ p.members → summed (target_count mk p.members) k ≡ first_of (downstream p) k
  downstream-first k h = first-is (target_count mk p.members) (downstream p) k (λ i l. downstream-count i (omega arith))

  pub members-are : members_bytes p.ids p.capacities dk mk p.members ≡ member_table p
  unfolding members_bytes member_table member_in member_row member_bytes
  members-are = gathered-same (member_in p.ids p.capacities dk mk p.members) (member_row p) p.members member ∙ laid-up_to (member_row p) p.members
    where
      member : (i : ℕ) → i < p.members → member_in p.ids p.capacities dk mk p.members i ≡ member_row p i
      member i l =
          rw (direct-first i (omega arith), direct-count i l, transitive-first i (omega arith), transitive-count i l, downstream-first i (omega arith), downstream-count i l)

  pub edges_are : edges_bytes p.routes p.sources p.targets p.delays p.edges ≡ edge_table p
  unfolding edges_bytes edge_table edge_row edge_bytes
  edges_are = laid-up_to (edge_row p) p.edges

  pub direct_is : source_table dk dv p.members ≡ direct_table p
  unfolding source_table direct_table direct_sources
  direct_is = table_is source_row (sources_bytes dk dv p.members) (direct_sources p) p.members (λ t l. sources-are dk dv (direct_of p) direct p.members t few (omega arith))

  pub transitive-is : source_table mk mv p.members ≡ transitive_table p
  unfolding source_table transitive_table transitive_sources
  transitive-is = table_is source_row (sources_bytes mk mv p.members) (transitive_sources p) p.members (λ t l. sources-are mk mv (minimum_of p) minimum p.members t few (omega arith))

  pub downstream-is : target_table mk p.members ≡ downstream_table p
  unfolding target_table downstream_table downstream reached
  downstream-is = table_is target_row (targets_bytes mk p.members) (downstream p) p.members (λ s l. targets-are mk mv (minimum_of p) minimum p.members s few (omega arith))

-- ---- the image of a plan whose delays the matrices hold, with d, t and w rows counted
pub record Counted (p : Plan) (dk dv mk mv : List ℕ) (d t w : ℕ) : Type 0 where
  pub few : p.members ≤ 32
  pub direct : Held dk dv (direct_of p)
  pub minimum : Held mk mv (minimum_of p)
  pub directs : d ≡ summed (source_count dk p.members) p.members
  pub transitives : t ≡ summed (source_count mk p.members) p.members
  pub downstreams : w ≡ summed (target_count mk p.members) p.members

pub counted_by : (p : Plan) (dk dv mk mv : List ℕ) (d t w : ℕ) → p.members ≤ 32 → Held dk dv (direct_of p) → Held mk mv (minimum_of p)
    → d ≡ summed (λ (i : ℕ). counted (λ (s : ℕ). held dk s i) p.members) p.members
    → t ≡ summed (λ (i : ℕ). counted (λ (s : ℕ). held mk s i) p.members) p.members
    → w ≡ summed (λ (i : ℕ). counted (onward mk i) p.members) p.members
    → Counted p dk dv mk mv d t w
counted_by p dk dv mk mv d t w few direct minimum e f g =
    record {
      few = few;
      direct = direct;
      minimum = minimum;
      directs = e ∙ sources-all dk p.members;
      transitives = f ∙ sources-all mk p.members;
      downstreams = g ∙ targets-all mk p.members;
    }

module _ {p : Plan} {dk dv mk mv : List ℕ} {d t w : ℕ} (c : Counted p dk dv mk mv d t w) where
  direct-rows : d ≡ direct_count p
  unfolding direct_count
  direct-rows = c.directs ∙ direct-first p dk dv mk mv c.few c.direct c.minimum p.members (omega arith)

  transitive-rows : t ≡ transitive_count p
  unfolding transitive_count
  transitive-rows = c.transitives ∙ transitive-first p dk dv mk mv c.few c.direct c.minimum p.members (omega arith)

  downstream-rows : w ≡ downstream_count p
  unfolding downstream_count
  downstream-rows = c.downstreams ∙ downstream-first p dk dv mk mv c.few c.direct c.minimum p.members (omega arith)

  pub few-rows : (d ≤ 1024) × (t ≤ 1024) × (w ≤ 1024)
  few-rows =
      (rw c.directs (sources-few dk p.members c.few), rw c.transitives (sources-few mk p.members c.few), rw c.downstreams (targets-few mk p.members c.few))

  -- all of it
  pub image-is : front_bytes p dk mk d t w ++ back_bytes dk dv mk mv p.members ≡ image_of p
  unfolding front_bytes back_bytes image_of
  image-is =
      rw (direct-rows, transitive-rows, downstream-rows, members-are p dk dv mk mv c.few c.direct c.minimum, edges_are p dk dv mk mv c.few c.direct c.minimum, direct_is p dk dv mk mv c.few c.direct c.minimum, transitive-is p dk dv mk mv c.few c.direct c.minimum, downstream-is p dk dv mk mv c.few c.direct c.minimum)
      (simp append_assoc)

  -- how long it is
  pub total-is : end_at p.members p.edges d t w ≡ total_of p
  unfolding total_of
  total-is = rw (direct-rows, transitive-rows, downstream-rows)

  -- room for the total is room for what is written
  pub image-room : (l : List ℕ) → end_at p.members p.edges d t w ≤ length l → Room 0 (front_bytes p dk mk d t w ++ back_bytes dk dv mk mv p.members) l
  image-room l h =
      let long : length (front_bytes p dk mk d t w ++ back_bytes dk dv mk mv p.members) ≡ total_of p = ap length image-is ∙ length-image p in
      omega (arith, total-is)

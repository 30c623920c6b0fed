-- The image of a plan says the plan: read back number by number, and so two plans with one image are one plan.
-- Assumes nothing.
use mathlib.Core.Path.{◌≡◌, refl, sym, ap, ◌∙◌}
use mathlib.Core.Bool.{Bool, true, false}
use mathlib.Core.List.{List, [], ◌∷◌, ◌++◌}
use Prim.Native.Nat.{ℕ, ◌+◌, ◌*◌, ◌<◌}
use native.Mathlib.Omega.{arith}
use borrow.Author.Tests.{ltb-true, ltb-false}
use lib.Dec.{ltb}
use lib.ListN.{length, get_or}
use lib.Seq.{ext_get_or}
use Rattle.basis.specs.Numbers.{bytes, number_at}
use Rattle.basis.specs.Parts.{part}
use Rattle.basis.proofs.Numbers.{length-bytes}
use Rattle.basis.proofs.Parts.{part_left}
use Rattle.plans.specs.declared.Plan.{Plan}
use Rattle.delays.specs.Lists.{direct_sources, transitive_sources, downstream}
use Rattle.image.specs.Image.{words, first_of, member_row, edge_row, direct_count, transitive_count, downstream_count, header, edges_at, direct_at, transitive_at, downstream_at, end_at, header_of, image_of}
use Rattle.image.specs.Whole.{Unused, Whole}
use Rattle.image.proofs.Rows.{length-words}
use Rattle.image.proofs.Back.{part-skip, part-first, part-all, number_in, word_in, header_in, member_back, edge-back}

-- ---- the numbers of a header, a member's row, an edge's row
header-word : (n e d t w k : ℕ) → k < 12 → part 4 (4 * k) (header_of n e d t w) ≡ bytes 4 (get_or (1 ∷ n ∷ e ∷ d ∷ t ∷ w ∷ header ∷ edges_at n ∷ direct_at n e ∷ transitive_at n e d ∷ downstream_at n e d t ∷ end_at n e d t w ∷ []) k 0)
unfolding header_of
header-word n e d t w k h = word_in (1 ∷ n ∷ e ∷ d ∷ t ∷ w ∷ header ∷ edges_at n ∷ direct_at n e ∷ transitive_at n e d ∷ downstream_at n e d t ∷ end_at n e d t w ∷ []) k h

module _ (id : ℕ) (ws : List ℕ) where
  row-id : (rest : List ℕ) → part 8 0 (bytes 8 id ++ rest) ≡ bytes 8 id
  row-id rest = part-first 8 (bytes 8 id) rest (length-bytes 8 id)

  row_word : (rest : List ℕ) (k : ℕ) → k < length ws → part 4 (8 + 4 * k) (bytes 8 id ++ (words ws ++ rest)) ≡ bytes 4 (get_or ws k 0)
  row_word rest k h =
      part-skip 4 8 (4 * k) (bytes 8 id) (words ws ++ rest) (length-bytes 8 id)
      ∙ part_left 4 (4 * k) (words ws) rest (omega (arith, length-words ws))
      ∙ word_in ws k h

  row_last : (v : ℕ) → length ws ≡ 2 → part 8 16 (bytes 8 id ++ (words ws ++ bytes 8 v)) ≡ bytes 8 v
  row_last v e =
      part-skip 8 8 8 (bytes 8 id) (words ws ++ bytes 8 v) (length-bytes 8 id)
      ∙ part-skip 8 8 0 (words ws) (bytes 8 v) (omega (arith, length-words ws))
      ∙ part-all 8 (bytes 8 v) (length-bytes 8 v)

-- a member's eight u32
abbrev member_words : Plan → ℕ → List ℕ
member_words p i =
    get_or p.capacities i 0
    ∷ first_of (direct_sources p) i
    ∷ length (direct_sources p i)
    ∷ first_of (transitive_sources p) i
    ∷ length (transitive_sources p i)
    ∷ first_of (downstream p) i
    ∷ length (downstream p i)
    ∷ 0
    ∷ []

abbrev edge_words : Plan → ℕ → List ℕ
edge_words p k = get_or p.sources k 0 ∷ get_or p.targets k 0 ∷ []

module _ (p : Plan) (whole : Whole p) where
  pub members-back : number_at 4 4 (image_of p) ≡ p.members
  members-back =
      number_in 4 4 48 0 p.members (image_of p) (header_of p.members p.edges (direct_count p) (transitive_count p) (downstream_count p)) (omega arith) (omega (arith, whole.fits.few)) (header_in p)
      (header-word p.members p.edges (direct_count p) (transitive_count p) (downstream_count p) 1 (omega arith))

  pub edges-back : number_at 4 8 (image_of p) ≡ p.edges
  edges-back =
      number_in 4 8 48 0 p.edges (image_of p) (header_of p.members p.edges (direct_count p) (transitive_count p) (downstream_count p)) (omega arith) (omega (arith, whole.fits.routed)) (header_in p)
      (header-word p.members p.edges (direct_count p) (transitive_count p) (downstream_count p) 2 (omega arith))

  pub id-back : (i : ℕ) → i < p.members → number_at 8 (48 + 40 * i + 0) (image_of p) ≡ get_or p.ids i 0
  unfolding member_row
  id-back i h =
      number_in 8 0 40 (48 + 40 * i) (get_or p.ids i 0) (image_of p) (member_row p i) (omega arith) (whole.ids.at i) (member_back p i h)
      (row-id (get_or p.ids i 0) [] (words (member_words p i)))

  pub capacity-back : (i : ℕ) → i < p.members → number_at 4 (48 + 40 * i + 8) (image_of p) ≡ get_or p.capacities i 0
  unfolding member_row
  capacity-back i h =
      number_in 4 8 40 (48 + 40 * i) (get_or p.capacities i 0) (image_of p) (member_row p i) (omega arith) (omega (arith, whole.fits.small i h)) (member_back p i h)
      (part-skip 4 8 0 (bytes 8 (get_or p.ids i 0)) (words (member_words p i)) (length-bytes 8 (get_or p.ids i 0)) ∙ word_in (member_words p i) 0 (omega arith))

  pub route_back : (k : ℕ) → k < p.edges → number_at 8 (edges_at p.members + 24 * k + 0) (image_of p) ≡ get_or p.routes k 0
  unfolding edge_row
  route_back k h =
      number_in 8 0 24 (edges_at p.members + 24 * k) (get_or p.routes k 0) (image_of p) (edge_row p k) (omega arith) (whole.routes.at k) (edge-back p k h)
      (row-id (get_or p.routes k 0) [] (words (edge_words p k) ++ bytes 8 (get_or p.delays k 0)))

  pub source-back : (k : ℕ) → k < p.edges → number_at 4 (edges_at p.members + 24 * k + 8) (image_of p) ≡ get_or p.sources k 0
  unfolding edge_row
  source-back k h =
      number_in 4 8 24 (edges_at p.members + 24 * k) (get_or p.sources k 0) (image_of p) (edge_row p k) (omega arith) (omega (arith, whole.fits.from k h, whole.fits.few)) (edge-back p k h)
      (row_word (get_or p.routes k 0) (edge_words p k) (bytes 8 (get_or p.delays k 0)) 0 (omega arith))

  pub target-back : (k : ℕ) → k < p.edges → number_at 4 (edges_at p.members + 24 * k + 12) (image_of p) ≡ get_or p.targets k 0
  unfolding edge_row
  target-back k h =
      number_in 4 12 24 (edges_at p.members + 24 * k) (get_or p.targets k 0) (image_of p) (edge_row p k) (omega arith) (omega (arith, whole.fits.to k h, whole.fits.few)) (edge-back p k h)
      (row_word (get_or p.routes k 0) (edge_words p k) (bytes 8 (get_or p.delays k 0)) 1 (omega arith))

  pub delay-back : (k : ℕ) → k < p.edges → number_at 8 (edges_at p.members + 24 * k + 16) (image_of p) ≡ get_or p.delays k 0
  unfolding edge_row
  delay-back k h =
      number_in 8 16 24 (edges_at p.members + 24 * k) (get_or p.delays k 0) (image_of p) (edge_row p k) (omega arith) (whole.delays.at k) (edge-back p k h)
      (row_last (get_or p.routes k 0) (edge_words p k) (get_or p.delays k 0) refl)

-- ---- lists of one length that agree in their used places
same_list : (l l' : List ℕ) (n k : ℕ) → length l ≡ k → length l' ≡ k → Unused l n → Unused l' n → ((i : ℕ) → i < n → get_or l i 0 ≡ get_or l' i 0) → l ≡ l'
same_list l l' n k a b u v h = ext_get_or 0 l l' (a ∙ sym b) (λ i _. by-test i (ltb i n) refl)
  where
    by-test : (i : ℕ) (x : Bool) → ltb i n ≡ x → get_or l i 0 ≡ get_or l' i 0
    by-test i true e = h i (ltb-true i n e)
    by-test i false e = u.at i (ltb-false i n e) ∙ sym (v.at i (ltb-false i n e))

-- a plan is its eight parts
plan_with : ℕ → ℕ → List ℕ → List ℕ → List ℕ → List ℕ → List ℕ → List ℕ → Plan
plan_with n e is cs rs ss ts ds = record { members = n; edges = e; ids = is; capacities = cs; routes = rs; sources = ss; targets = ts; delays = ds }

parts_same : {n n' e e' : ℕ} {is is' cs cs' rs rs' ss ss' ts ts' ds ds' : List ℕ} → n ≡ n' → e ≡ e' → is ≡ is' → cs ≡ cs' → rs ≡ rs' → ss ≡ ss' → ts ≡ ts' → ds ≡ ds' → plan_with n e is cs rs ss ts ds ≡ plan_with n' e' is' cs' rs' ss' ts' ds'
parts_same a b c d e f g h = cc

plan-same : (p q : Plan) → p.members ≡ q.members → p.edges ≡ q.edges → p.ids ≡ q.ids → p.capacities ≡ q.capacities → p.routes ≡ q.routes → p.sources ≡ q.sources → p.targets ≡ q.targets → p.delays ≡ q.delays → p ≡ q
unfolding plan_with
plan-same p q a b c d e f g h = parts_same a b c d e f g h

-- ---- the image of a plan is injective
module _ (p q : Plan) (wp : Whole p) (wq : Whole q) (e : image_of p ≡ image_of q) where
  agree : (w at : ℕ) {x y : ℕ} → number_at w at (image_of p) ≡ x → number_at w at (image_of q) ≡ y → x ≡ y
  agree w at a b = sym a ∙ ap (number_at w at) e ∙ b

  same-members : p.members ≡ q.members
  same-members = agree 4 4 (members-back p wp) (members-back q wq)

  same_edges : p.edges ≡ q.edges
  same_edges = agree 4 8 (edges-back p wp) (edges-back q wq)

  same_start : edges_at q.members ≡ edges_at p.members
  same_start = ap (λ (n : ℕ). edges_at n) (sym same-members)

  -- a field of every member's row, of every edge's row
  by-member : (w off : ℕ) (f g : List ℕ) → length f ≡ 32 → length g ≡ 32 → Unused f p.members → Unused g q.members → ((i : ℕ) → i < p.members → number_at w (48 + 40 * i + off) (image_of p) ≡ get_or f i 0) → ((i : ℕ) → i < q.members → number_at w (48 + 40 * i + off) (image_of q) ≡ get_or g i 0) → f ≡ g
  by-member w off f g lf lg uf ug hf hg =
      same_list f g p.members 32 lf lg uf (rw same-members ug) (λ i l. agree w (48 + 40 * i + off) (hf i l) (hg i (omega (arith, same-members))))

  by-edge : (w off : ℕ) (f g : List ℕ) → length f ≡ 256 → length g ≡ 256 → Unused f p.edges → Unused g q.edges → ((k : ℕ) → k < p.edges → number_at w (edges_at p.members + 24 * k + off) (image_of p) ≡ get_or f k 0) → ((k : ℕ) → k < q.edges → number_at w (edges_at q.members + 24 * k + off) (image_of q) ≡ get_or g k 0) → f ≡ g
  by-edge w off f g lf lg uf ug hf hg =
      same_list f g p.edges 256 lf lg uf (rw same_edges ug) (λ k l. agree w (edges_at p.members + 24 * k + off) (hf k l) (rw same-members (hg k (omega (arith, same_edges)))))

  pub injective : p ≡ q
  injective =
      plan-same p q same-members same_edges
      (by-member 8 0 p.ids q.ids wp.fits.ids wq.fits.ids wp.no-ids wq.no-ids (id-back p wp) (id-back q wq))
      (by-member 4 8 p.capacities q.capacities wp.fits.capacities wq.fits.capacities wp.no-capacities wq.no-capacities (capacity-back p wp) (capacity-back q wq))
      (by-edge 8 0 p.routes q.routes wp.fits.routes wq.fits.routes wp.no-routes wq.no-routes (route_back p wp) (route_back q wq))
      (by-edge 4 8 p.sources q.sources wp.fits.sources wq.fits.sources wp.no-sources wq.no-sources (source-back p wp) (source-back q wq))
      (by-edge 4 12 p.targets q.targets wp.fits.targets wq.fits.targets wp.no_targets wq.no_targets (target-back p wp) (target-back q wq))
      (by-edge 8 16 p.delays q.delays wp.fits.delays wq.fits.delays wp.no-delays wq.no-delays (delay-back p wp) (delay-back q wq))

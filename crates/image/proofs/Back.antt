-- The image read back: each row stands at its place, and each number in it.
-- Assumes nothing.
use mathlib.Core.Path.{◌≡◌, sym, ap, ◌∙◌}
use mathlib.Core.List.{List, [], ◌∷◌, ◌++◌, append-nil}
use Prim.Native.Nat.{ℕ, zero, suc, ◌+◌, ◌-◌, ◌*◌, ◌^◌, ◌<◌, ◌≤◌}
use native.Mathlib.Omega.{arith}
use native.Mathlib.Nat.{zero-add, suc-add, mul-le-mul_left}
use lib.ListN.{length, get_or, take, drop}
use lib.Seq.{take_at, take-nil, drop-append-add, take-take, drop-drop}
use Rattle.basis.specs.Numbers.{bytes, number, number_at}
use Rattle.basis.specs.Parts.{part}
use Rattle.basis.proofs.Numbers.{length-bytes, number-bytes}
use Rattle.basis.proofs.Parts.{part_left}
use Rattle.plans.specs.declared.Plan.{Plan}
use Rattle.delays.specs.Lists.{Source, direct_sources, transitive_sources, downstream}
use Rattle.image.specs.Image.{laid, gathered, up_to, words, source_row, target_row, member_row, edge_row, member_table, edge_table, direct_table, transitive_table, downstream_table, direct_count, transitive_count, downstream_count, edges_at, direct_at, transitive_at, downstream_at, header_of, image_of}
use Rattle.image.proofs.Tables.{length-laid, row_at, length-gathered, length-up_to, get_or-up_to}
use Rattle.image.proofs.Rows.{length-header, length-source, length-target}
use Rattle.image.proofs.Sizes.{length-member_row, length-edge_row, length-members, length-edges, length-direct, length-transitive}

-- ---- parts of parts
module _ {A : Type 0} where
  pub part-skip : (k n j : ℕ) (xs ys : List A) → length xs ≡ n → part k (n + j) (xs ++ ys) ≡ part k j ys
  unfolding part
  part-skip k n j xs ys e = rw (← e, drop-append-add xs ys j)

  pub part-first : (k : ℕ) (xs ys : List A) → length xs ≡ k → part k 0 (xs ++ ys) ≡ xs
  unfolding part
  part-first k xs ys e = take_at xs ys k e

  pub part-all : (k : ℕ) (xs : List A) → length xs ≡ k → part k 0 xs ≡ xs
  part-all k xs e = ap (part k 0) (sym (append-nil xs)) ∙ part-first k xs [] e

  drop-take : (j r : ℕ) (l : List A) → drop j (take (j + r) l) ≡ take r (drop j l)
  drop-take zero r l = rw (zero-add r)
  drop-take (suc j) r [] = rw (take-nil r, take-nil (suc j + r))
  drop-take (suc j) r (x ∷ xs) = rw (suc-add j r) (drop-take j r xs)

  pub part-part : (w j k i : ℕ) (l : List A) → j + w ≤ k → part w j (part k i l) ≡ part w (i + j) l
  unfolding part
  part-part w j k i l h =
      let e : k ≡ j + (k - j) = omega arith in
      ap (λ (x : ℕ). take w (drop j (take x (drop i l)))) e
      ∙ rw (drop-take j (k - j) (drop i l), take-take w (k - j) (drop j (drop i l)) (omega arith), drop-drop j i l)

-- ---- a number in a row
-- the number at offset j of a row of W bytes that stands at place i
pub number_in : (w j W i v : ℕ) (l row : List ℕ) → j + w ≤ W → v < 256 ^ w → part W i l ≡ row → part w j row ≡ bytes w v → number_at w (i + j) l ≡ v
unfolding number_at part
number_in w j W i v l row h small e f = ap number (sym (part-part w j W i l h) ∙ ap (part w j) e ∙ f) ∙ number-bytes w v small

-- word k of words
pub word_in : (ws : List ℕ) (k : ℕ) → k < length ws → part 4 (4 * k) (words ws) ≡ bytes 4 (get_or ws k 0)
word_in ws k h = row_at (bytes 4) 4 (length-bytes 4) ws k 0 h

-- row k of a table with more behind it
pub row_in : {A : Type 0} (row : A → List ℕ) (w : ℕ) → ((x : A) → length (row x) ≡ w) → (xs : List A) (post : List ℕ) (k : ℕ) (d : A) → k < length xs → part w (w * k) (laid row xs ++ post) ≡ row (get_or xs k d)
row_in row w h xs post k d l =
    part_left w (w * k) (laid row xs) post (omega (arith, length-laid row w h xs, mul-le-mul_left w l)) ∙ row_at row w h xs k d l

-- ---- the rows of an image
-- what stands behind the header, behind the members, behind the edges
abbrev pub after_edges : Plan → List ℕ
after_edges p = direct_table p ++ (transitive_table p ++ downstream_table p)

abbrev pub after_members : Plan → List ℕ
after_members p = edge_table p ++ after_edges p

abbrev pub after_header : Plan → List ℕ
after_header p = member_table p ++ after_members p

module _ (p : Plan) where
  pub header_in : part 48 0 (image_of p) ≡ header_of p.members p.edges (direct_count p) (transitive_count p) (downstream_count p)
  unfolding image_of
  header_in = part-first 48 (header_of p.members p.edges (direct_count p) (transitive_count p) (downstream_count p)) (after_header p) (length-header p.members p.edges (direct_count p) (transitive_count p) (downstream_count p))

  -- behind the header, and table by table
  behind-header : (w j : ℕ) → part w (48 + j) (image_of p) ≡ part w j (after_header p)
  unfolding image_of
  behind-header w j = part-skip w 48 j (header_of p.members p.edges (direct_count p) (transitive_count p) (downstream_count p)) (after_header p) (length-header p.members p.edges (direct_count p) (transitive_count p) (downstream_count p))

  behind-members : (w j : ℕ) → part w (edges_at p.members + j) (image_of p) ≡ part w j (after_members p)
  behind-members w j =
      let e : edges_at p.members + j ≡ 48 + (40 * p.members + j) = omega arith in
      ap (λ (i : ℕ). part w i (image_of p)) e ∙ behind-header w (40 * p.members + j) ∙ part-skip w (40 * p.members) j (member_table p) (after_members p) (length-members p)

  behind-edges : (w j : ℕ) → part w (direct_at p.members p.edges + j) (image_of p) ≡ part w j (after_edges p)
  behind-edges w j =
      let e : direct_at p.members p.edges + j ≡ edges_at p.members + (24 * p.edges + j) = omega arith in
      ap (λ (i : ℕ). part w i (image_of p)) e ∙ behind-members w (24 * p.edges + j) ∙ part-skip w (24 * p.edges) j (edge_table p) (after_edges p) (length-edges p)

  behind-direct : (w j : ℕ) → part w (transitive_at p.members p.edges (direct_count p) + j) (image_of p) ≡ part w j (transitive_table p ++ downstream_table p)
  behind-direct w j =
      let e : transitive_at p.members p.edges (direct_count p) + j ≡ direct_at p.members p.edges + (16 * direct_count p + j) = omega arith in
      ap (λ (i : ℕ). part w i (image_of p)) e ∙ behind-edges w (16 * direct_count p + j) ∙ part-skip w (16 * direct_count p) j (direct_table p) (transitive_table p ++ downstream_table p) (length-direct p)

  behind-transitive : (w j : ℕ) → part w (downstream_at p.members p.edges (direct_count p) (transitive_count p) + j) (image_of p) ≡ part w j (downstream_table p)
  behind-transitive w j =
      let e : downstream_at p.members p.edges (direct_count p) (transitive_count p) + j ≡ transitive_at p.members p.edges (direct_count p) + (16 * transitive_count p + j) = omega arith in
      ap (λ (i : ℕ). part w i (image_of p)) e ∙ behind-direct w (16 * transitive_count p + j) ∙ part-skip w (16 * transitive_count p) j (transitive_table p) (downstream_table p) (length-transitive p)

  pub member_back : (i : ℕ) → i < p.members → part 40 (48 + 40 * i) (image_of p) ≡ member_row p i
  unfolding member_table
  member_back i h =
      behind-header 40 (40 * i)
      ∙ row_in (member_row p) 40 (length-member_row p) (up_to p.members) (after_members p) i 0 (rw (length-up_to p.members) h)
      ∙ ap (member_row p) (get_or-up_to p.members i 0 h)

  -- route k is edge k
  pub edge-back : (k : ℕ) → k < p.edges → part 24 (edges_at p.members + 24 * k) (image_of p) ≡ edge_row p k
  unfolding edge_table
  edge-back k h =
      behind-members 24 (24 * k)
      ∙ row_in (edge_row p) 24 (length-edge_row p) (up_to p.edges) (after_edges p) k 0 (rw (length-up_to p.edges) h)
      ∙ ap (edge_row p) (get_or-up_to p.edges k 0 h)

  pub direct-back : (k : ℕ) (d : Source) → k < direct_count p → part 16 (direct_at p.members p.edges + 16 * k) (image_of p) ≡ source_row (get_or (gathered (direct_sources p) p.members) k d)
  unfolding direct_table direct_count
  direct-back k d h =
      behind-edges 16 (16 * k)
      ∙ row_in source_row 16 length-source (gathered (direct_sources p) p.members) (transitive_table p ++ downstream_table p) k d (rw (length-gathered (direct_sources p) p.members) h)

  pub transitive-back : (k : ℕ) (d : Source) → k < transitive_count p → part 16 (transitive_at p.members p.edges (direct_count p) + 16 * k) (image_of p) ≡ source_row (get_or (gathered (transitive_sources p) p.members) k d)
  unfolding transitive_table transitive_count
  transitive-back k d h =
      behind-direct 16 (16 * k)
      ∙ row_in source_row 16 length-source (gathered (transitive_sources p) p.members) (downstream_table p) k d (rw (length-gathered (transitive_sources p) p.members) h)

  pub downstream-back : (k : ℕ) → k < downstream_count p → part 4 (downstream_at p.members p.edges (direct_count p) (transitive_count p) + 4 * k) (image_of p) ≡ target_row (get_or (gathered (downstream p) p.members) k 0)
  unfolding downstream_table downstream_count
  downstream-back k h =
      behind-transitive 4 (4 * k)
      ∙ row_at target_row 4 length-target (gathered (downstream p) p.members) k 0 (rw (length-gathered (downstream p) p.members) h)

-- How long the image of a plan is.
-- Assumes nothing.
use mathlib.Core.Path.{◌≡◌, ap, ◌∙◌}
use mathlib.Core.List.{List}
use Prim.Native.Nat.{ℕ, ◌*◌}
use native.Mathlib.Omega.{arith}
use lib.ListN.{length, get_or, length-append}
use Rattle.plans.specs.declared.Plan.{Plan}
use Rattle.delays.specs.Lists.{direct_sources, transitive_sources, downstream}
use Rattle.image.specs.Image.{laid, gathered, first_of, up_to, source_row, target_row, member_row, edge_row, member_table, edge_table, direct_table, transitive_table, downstream_table, direct_count, transitive_count, downstream_count, total_of, image_of}
use Rattle.image.specs.Writing.{member_bytes, edge_bytes}
use Rattle.image.proofs.Tables.{length-laid, length-gathered, length-up_to}
use Rattle.image.proofs.Rows.{length-header, length-member, length-edge, length-source, length-target}

-- a table of the lists of n places, over the row's length
pub length-table : {A : Type 0} (row : A → List ℕ) (w : ℕ) → ((x : A) → length (row x) ≡ w) → (f : ℕ → List A) (n : ℕ) → length (laid row (gathered f n)) ≡ w * first_of f n
length-table row w h f n = length-laid row w h (gathered f n) ∙ ap (λ (k : ℕ). w * k) (length-gathered f n)

-- a table of one row for each of n places
pub length-places : (row : ℕ → List ℕ) (w : ℕ) → ((i : ℕ) → length (row i) ≡ w) → (n : ℕ) → length (laid row (up_to n)) ≡ w * n
length-places row w h n = length-laid row w h (up_to n) ∙ ap (λ (k : ℕ). w * k) (length-up_to n)

module _ (p : Plan) where
  pub length-member_row : (i : ℕ) → length (member_row p i) ≡ 40
  unfolding member_row member_bytes
  length-member_row i =
      length-member (get_or p.ids i 0) (get_or p.capacities i 0)
      (first_of (direct_sources p) i) (length (direct_sources p i))
      (first_of (transitive_sources p) i) (length (transitive_sources p i))
      (first_of (downstream p) i) (length (downstream p i))

  pub length-edge_row : (k : ℕ) → length (edge_row p k) ≡ 24
  unfolding edge_row edge_bytes
  length-edge_row k = length-edge (get_or p.routes k 0) (get_or p.sources k 0) (get_or p.targets k 0) (get_or p.delays k 0)

  pub length-members : length (member_table p) ≡ 40 * p.members
  unfolding member_table
  length-members = length-places (member_row p) 40 length-member_row p.members

  pub length-edges : length (edge_table p) ≡ 24 * p.edges
  unfolding edge_table
  length-edges = length-places (edge_row p) 24 length-edge_row p.edges

  pub length-direct : length (direct_table p) ≡ 16 * direct_count p
  unfolding direct_table direct_count
  length-direct = length-table source_row 16 length-source (direct_sources p) p.members

  pub length-transitive : length (transitive_table p) ≡ 16 * transitive_count p
  unfolding transitive_table transitive_count
  length-transitive = length-table source_row 16 length-source (transitive_sources p) p.members

  pub length-downstream : length (downstream_table p) ≡ 4 * downstream_count p
  unfolding downstream_table downstream_count
  length-downstream = length-table target_row 4 length-target (downstream p) p.members

  -- "Most: .."; the total is what the image takes
  pub length-image : length (image_of p) ≡ total_of p
  unfolding image_of total_of
  length-image =
      simp (length-append, length-header, length-members, length-edges, length-direct, length-transitive, length-downstream) (omega arith)

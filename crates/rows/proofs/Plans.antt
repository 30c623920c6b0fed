-- The plan that a compiled plan holds, place by place.
-- Assumes nothing.
use Prim.Native.Nat.{ℕ, zero, suc, ◌+◌, ◌<◌, ◌≤◌}
use mathlib.Core.Path.{◌≡◌, refl, ap, ◌∙◌}
use mathlib.Core.List.{List}
use native.Mathlib.Omega.{arith}
use native.Mathlib.Decide.{dec_le}
use native.Mathlib.Nat.{add-zero, add-suc, zero-add, suc-add}
use borrow.Author.Tests.{lt-ltb, le-ltb}
use lib.Dec.{ltb}
use lib.ListN.{length, get_or}
use Rattle.basis.specs.Choice.{pick}
use Rattle.plans.specs.Values.{Fits}
use Rattle.rows.specs.Rows.{members, edges, capacity, edge_source, edge_target}
use Rattle.rows.specs.Plans.{listed, padded, plan_in}

listed-length : (f : ℕ → ℕ) (i k : ℕ) → length (listed f i k) ≡ k
unfolding listed
listed-length f i zero = refl
listed-length f i (suc k) = ap suc (listed-length f (suc i) k)

listed_at : (f : ℕ → ℕ) (i k j : ℕ) → j < k → get_or (listed f i k) j 0 ≡ f (i + j)
unfolding listed
listed_at f i zero j l = absurd (omega arith)
listed_at f i (suc k) zero l = rw (add-zero i) refl
listed_at f i (suc k) (suc j) l = rw (add-suc i j, ← suc-add i j) (listed_at f (suc i) k j (omega arith))

listed-past : (f : ℕ → ℕ) (i k j : ℕ) → k ≤ j → get_or (listed f i k) j 0 ≡ 0
unfolding listed
listed-past f i zero j l = refl
listed-past f i (suc k) zero l = absurd (omega arith)
listed-past f i (suc k) (suc j) l = listed-past f (suc i) k j (omega arith)

module _ (f : ℕ → ℕ) (n k : ℕ) where
  pub padded-length : length (padded f n k) ≡ k
  unfolding padded
  padded-length = listed-length (λ (i : ℕ). pick (ltb i n) (f i) 0) 0 k

  pub padded-at : (i : ℕ) → i < n → n ≤ k → get_or (padded f n k) i 0 ≡ f i
  unfolding padded
  padded-at i l h =
      listed_at (λ (j : ℕ). pick (ltb j n) (f j) 0) 0 k i (omega arith) ∙ rw (zero-add i, lt-ltb i n l) refl

  -- an element is f at its place or 0
  pub padded-all : (P : ℕ → Type 0) → P 0 → ((i : ℕ) → i < n → P (f i)) → (i : ℕ) → P (get_or (padded f n k) i 0)
  unfolding padded
  padded-all P z h i = far (dec_le k i)
    where
      near : Dec (n ≤ i) → i < k → P (get_or (listed (λ (j : ℕ). pick (ltb j n) (f j) 0) 0 k) i 0)
      near (yes a) l = rw (listed_at (λ (j : ℕ). pick (ltb j n) (f j) 0) 0 k i l, zero-add i, le-ltb i n a) z
      near (no a) l = let m : i < n = omega arith in rw (listed_at (λ (j : ℕ). pick (ltb j n) (f j) 0) 0 k i l, zero-add i, lt-ltb i n m) (h i m)

      far : Dec (k ≤ i) → P (get_or (listed (λ (j : ℕ). pick (ltb j n) (f j) 0) 0 k) i 0)
      far (yes a) = rw (listed-past (λ (j : ℕ). pick (ltb j n) (f j) 0) 0 k i a) z
      far (no a) = near (dec_le n i) (omega arith)

-- a plan that fits
pub fits_in : (b : List ℕ) → members b ≤ 32 → edges b ≤ 256 → ((k : ℕ) → k < edges b → edge_source b k < members b)
    → ((k : ℕ) → k < edges b → edge_target b k < members b) → ((i : ℕ) → i < members b → capacity b i ≤ 32) → Fits (plan_in b)
unfolding plan_in
fits_in b n e from to small =
    record {
      few = n;
      routed = e;
      ids = padded-length _ _ _;
      capacities = padded-length _ _ _;
      routes = padded-length _ _ _;
      sources = padded-length _ _ _;
      targets = padded-length _ _ _;
      delays = padded-length _ _ _;
      from = λ k l. rw (padded-at (edge_source b) (edges b) 256 k l e) (from k l);
      to = λ k l. rw (padded-at (edge_target b) (edges b) 256 k l e) (to k l);
      small = λ i l. rw (padded-at (capacity b) (members b) 32 i l n) (small i l);
    }

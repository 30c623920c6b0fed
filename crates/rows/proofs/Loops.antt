-- A loop over ascending rows is the loop over all positions that some row names.
-- Assumes nothing.
use Prim.Native.Nat.{ℕ, zero, suc, ◌+◌, ◌<◌, ◌≤◌}
use mathlib.Core.Path.{◌≡◌, refl, sym, ap, ◌∙◌}
use mathlib.Core.Logic.{⊎_elim}
use mathlib.Core.Bool.{Bool, true, false}
use native.Mathlib.Omega.{arith}
use native.Mathlib.Nat.{eq-or-lt_of_le}
use borrow.Author.Tests.{eq-eqb, ne_eqb, lt-ltb}
use lib.Dec.{ltb}
use Rattle.basis.specs.Choice.{pick}
use Rattle.tags.specs.declared.Tag.{Tag}
use Rattle.tags.specs.declared.Tag.TheVariants.{Never, Finite, Forever}
use Rattle.tags.specs.Tags.{least_of}
use Rattle.plans.specs.Nets.{none}
use Rattle.rows.specs.Loops.{over_rows, over_all, delay_of, Ascends}

-- one step of the loop over all positions: where there is a delay
abbrev pub where_named : {A : Type 0} → (ℕ → ℕ) → (A → ℕ → ℕ → A) → A → ℕ → A
where_named d step x i = pick (ltb (d i) none) (step x i (d i)) x

module _ {A : Type 0} (step : A → ℕ → ℕ → A) where
  -- two loops that agree at each position
  pub all-agree : (d e : ℕ → ℕ) (n : ℕ) (x : A) → ((i : ℕ) → i < n → d i ≡ e i) → over_all (where_named d step) n x ≡ over_all (where_named e step) n x
  unfolding over_all
  all-agree d e zero x h = refl
  all-agree d e (suc n) x h = rw (all-agree d e n x (λ i l. h i (omega arith)), h n (omega arith)) refl

  -- positions from s on that no row names
  pub all-skip : (d : ℕ → ℕ) (s n : ℕ) (x : A) → s ≤ n → ((i : ℕ) → s ≤ i → i < n → d i ≡ none) → over_all (where_named d step) n x ≡ over_all (where_named d step) s x
  unfolding over_all
  all-skip d s zero x l h = let e : s ≡ 0 = omega arith in rw e refl
  all-skip d s (suc n) x l h =
      ⊎_elim
      (λ (e : s ≡ suc n). rw e refl)
      (λ (m : s < suc n). let e : d n ≡ none = h n (omega arith) (omega arith) in rw e (all-skip d s n x (omega arith) (λ i p q. h i p (omega arith))))
      (eq-or-lt_of_le l)

module _ (name delay : ℕ → ℕ) (first : ℕ) where
  -- what no row names has no delay
  pub unnamed : (count i : ℕ) → ((c : ℕ) → c < count → name (first + c) ≡ i → ⊥) → delay_of name delay first count i ≡ none
  unfolding delay_of
  unnamed zero i h = refl
  unnamed (suc c) i h = rw (ne_eqb (name (first + c)) i (h c (omega arith))) (unnamed c i (λ k l. h k (omega arith)))

  -- what the last of several rows names has its delay, and what is not its name what the others say
  pub last-named : (c i : ℕ) → name (first + c) ≡ i → delay_of name delay first (suc c) i ≡ delay (first + c)
  unfolding delay_of
  last-named c i e = rw (eq-eqb (name (first + c)) i e) refl

  pub last-other : (c i : ℕ) → (name (first + c) ≡ i → ⊥) → delay_of name delay first (suc c) i ≡ delay_of name delay first c i
  unfolding delay_of
  last-other c i e = rw (ne_eqb (name (first + c)) i e) refl

  -- the rows but the last ascend below it
  pub ascends-less : (c n : ℕ) → Ascends name first (suc c) n → Ascends name first c (name (first + c))
  ascends-less c n h = record { inside = λ k l. h.up k c l (omega arith); up = λ j k l m. h.up j k l (omega arith) }

  -- a loop over ascending rows is the loop over all positions that have a delay
  pub rows_all : {A : Type 0} (step : A → ℕ → ℕ → A) (count n : ℕ) (x : A) → Ascends name first count n → ((c : ℕ) → c < count → delay (first + c) < none)
      → over_rows (λ y k. step y (name k) (delay k)) first count x ≡ over_all (where_named (delay_of name delay first count) step) n x
  unfolding over_rows over_all
  rows_all step zero n x h small =
      sym (all-skip step (delay_of name delay first 0) 0 n x (omega arith) (λ i l m. unnamed 0 i (λ c k. absurd (omega arith))))
  rows_all step (suc c) n x h small =
      let s : ℕ = name (first + c) in
      let before = rows_all step c s x (ascends-less c n h) (λ k l. small k (omega arith)) in
      let same = all-agree step (delay_of name delay first c) (delay_of name delay first (suc c)) s x (λ i l. sym (last-other c i (λ e. omega arith))) in
      let skipped = all-skip step (delay_of name delay first (suc c)) (suc s) n x (h.inside c (omega arith)) (λ i l m. unnamed (suc c) i (λ k p e. past k i p l e)) in
      let here : delay_of name delay first (suc c) s ≡ delay (first + c) = last-named c s refl in
      let there : ltb (delay (first + c)) none ≡ true = lt-ltb _ _ (small c (omega arith)) in
      rw (skipped, here, there, ← same, ← before) refl
    where
      past : (k i : ℕ) → k < suc c → name (first + c) < i → name (first + k) ≡ i → ⊥
      past k i p l e =
          ⊎_elim (λ (q : k ≡ c). let z : name (first + k) ≡ name (first + c) = ap (λ (y : ℕ). name (first + y)) q in omega arith)
          (λ (q : k < c). let z = h.up k c q (omega arith) in omega arith)
          (eq-or-lt_of_le (omega arith))

-- ---- a loop that keeps the least tag
pub least-forever : (x : Tag) → least_of x Forever ≡ x
least-forever Never = refl
least-forever (Finite o m) = refl
least-forever Forever = refl

-- the least over all positions, FOREVER where there is no delay, by any definition that recurs on their number
module _ (d : ℕ → ℕ) (g : ℕ → ℕ → Tag) (least : ℕ → Tag) (none_yet : least 0 ≡ Forever)
    (more : (k : ℕ) → least (suc k) ≡ least_of (least k) (pick (ltb (d k) none) (g k (d k)) Forever)) where
  pub all-least : (n : ℕ) → over_all (where_named d (λ x i w. least_of x (g i w))) n Forever ≡ least n
  unfolding over_all
  all-least zero = sym none_yet
  all-least (suc n) = rw (all-least n, more n) (cases (ltb (d n) none) (least n) (g n (d n)))
    where
      cases : (b : Bool) (x y : Tag) → pick b (least_of x y) x ≡ least_of x (pick b y Forever)
      cases true x y = refl
      cases false x y = sym (least-forever x)

-- a loop over ascending rows that keeps the least is the least over all positions
pub rows-least : (name delay : ℕ → ℕ) (first count n : ℕ) (g : ℕ → ℕ → Tag) (least : ℕ → Tag) → Ascends name first count n
    → ((c : ℕ) → c < count → delay (first + c) < none) → least 0 ≡ Forever
    → ((k : ℕ) → least (suc k) ≡ least_of (least k) (pick (ltb (delay_of name delay first count k) none) (g k (delay_of name delay first count k)) Forever))
    → over_rows (λ x k. least_of x (g (name k) (delay k))) first count Forever ≡ least n
rows-least name delay first count n g least up small none_yet more =
    rows_all name delay first (λ x i w. least_of x (g i w)) count n Forever up small ∙ all-least (delay_of name delay first count) g least none_yet more n

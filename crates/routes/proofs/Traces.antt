-- How a path is written from its end, and that it attains the minimum.
-- Assumes nothing.
use mathlib.Core.Bool.{false}
use mathlib.Core.Path.{◌≡◌, ◌∙◌}
use mathlib.Core.Logic.{◌⊎◌, ⊎_elim, inl, inr}
use mathlib.Core.List.{List}
use Prim.Native.Nat.{ℕ, zero, suc, ◌+◌, ◌-◌, ◌<◌, ◌≤◌}
use native.Mathlib.Omega.{arith}
use native.Mathlib.Nat.{eq-or-lt_of_le}
use lib.ListN.{length, get_or, set}
use lib.Seq.{get_or-set_same, get_or-set_other}
use Rattle.delays.specs.Search.{first}
use Rattle.delays.proofs.Walks.{le-or-lt}
use Rattle.delays.proofs.Search.{first-hit, first-least}
use Rattle.routes.specs.Paths.{enters, Back, Written}
use Rattle.routes.proofs.Marks.{enters_true, enters_if}

-- ---- the edge that is found
pub record Entering (dst marks : List ℕ) (at e : ℕ) : Type 0 where
  pub inside : e < 256
  pub leads : get_or dst e 0 ≡ at
  pub marked : get_or marks e 0 ≡ 0 → ⊥

module _ (dst marks : List ℕ) (at : ℕ) where
  pub found : (e : ℕ) → e ≡ first (enters dst marks at) 0 256 → e < 256 → Entering dst marks at e
  found e q h =
      let t = enters_true dst marks at e (rw q (first-hit (enters dst marks at) 0 256 (omega arith))) in
      record { inside = h; leads = t.0; marked = t.1 }

  -- where there is one, one is found
  pub is_found : (e : ℕ) → e ≡ first (enters dst marks at) 0 256 → (k : ℕ) → Entering dst marks at k → e < 256
  is_found e q k K = ⊎_elim (λ h. absurd (none h)) (λ h. h) (le-or-lt 256 e)
    where
      none : 256 ≤ e → ⊥
      none h =
          let f : enters dst marks at k ≡ false = first-least (enters dst marks at) 0 256 k (omega arith) (omega (arith, K.inside)) in
          let t = enters_if dst marks at k K.leads K.marked in
          let z : ◌≡◌ {A = ℕ} 0 1 = cc in
          omega arith

-- ---- going back
module _ (src dst marks : List ℕ) (at left : ℕ) (B : Back src dst marks at left) where
  pub back-edge : (e : ℕ) → e ≡ first (enters dst marks at) 0 256 → Entering dst marks at e
  unfolding Back
  back-edge e q = go left B
    where
      go : (l : ℕ) → Back src dst marks at l → Entering dst marks at e
      go zero b = absurd b
      go (suc l) b =
          let k = b.0 in
          found dst marks at e q (is_found dst marks at e q k.0 (record { inside = k.1; leads = k.2; marked = k.3 }))

  pub back_some : 1 ≤ left
  unfolding Back
  back_some = go left B
    where
      go : (l : ℕ) → Back src dst marks at l → 1 ≤ l
      go zero b = absurd b
      go (suc l) b = omega arith

  pub back_on : (e : ℕ) → Entering dst marks at e → (get_or marks e 0 ≡ 2 → ⊥) → Back src dst marks (get_or src e 0) (left - 1)
  unfolding Back
  back_on e E d = go left B
    where
      go : (l : ℕ) → Back src dst marks at l → Back src dst marks (get_or src e 0) (l - 1)
      go zero b = absurd b
      go (suc l) b =
          let q : suc l - 1 ≡ l = omega arith in
          rw q (b.1 e E.inside E.leads E.marked d)

-- ---- writing
module _ (src dst marks was : List ℕ) (at left e : ℕ) (E : Entering dst marks at e) (some : 1 ≤ left) (few : left ≤ 32) where
  pub written_one : length was ≡ 32 → get_or marks e 0 ≡ 2 → Written src dst marks was (set was 0 e) at left 1
  written_one l m =
      let q : get_or (set was 0 e) 0 0 ≡ e = get_or-set_same was 0 e 0 (omega arith) in
      record {
        some = omega arith;
        few = some;
        first = rw q m;
        later = λ i a b. absurd (omega arith);
        joined = λ i h. absurd (omega arith);
        ends = rw q E.leads;
        rest = λ i h. get_or-set_other was 0 i e 0 (omega arith);
      }

  pub written-more : (out : List ℕ) (k : ℕ) → length out ≡ 32 → (get_or marks e 0 ≡ 2 → ⊥) → Written src dst marks was out (get_or src e 0) (left - 1) k
      → Written src dst marks was (set out k e) at left (k + 1)
  written-more out k l d W =
      record {
        some = omega arith;
        few = omega (arith, W.few);
        first = rw (old 0 W.some) W.first;
        later = λ i a b. later i a (eq-or-lt_of_le (omega arith));
        joined = λ i h. joined i (eq-or-lt_of_le (omega arith));
        ends = ends;
        rest = λ i h. get_or-set_other out k i e 0 (omega arith) ∙ W.rest i (omega arith);
      }
    where
      new : get_or (set out k e) k 0 ≡ e
      new = get_or-set_same out k e 0 (omega (arith, W.few))

      old : (i : ℕ) → i < k → get_or (set out k e) i 0 ≡ get_or out i 0
      old i h = get_or-set_other out k i e 0 (omega arith)

      later : (i : ℕ) → 0 < i → (i ≡ k) ⊎ (i < k) → (get_or marks (get_or (set out k e) i 0) 0 ≡ 0 → ⊥) × (get_or marks (get_or (set out k e) i 0) 0 ≡ 2 → ⊥)
      later i a (inl q) = rw (q, new) (E.marked, d)
      later i a (inr h) = rw (old i h) (W.later i a h)

      joined : (i : ℕ) → (i + 1 ≡ k) ⊎ (i + 1 < k) → get_or dst (get_or (set out k e) i 0) 0 ≡ get_or src (get_or (set out k e) (i + 1) 0) 0
      joined i (inl q) =
          let b : k - 1 ≡ i = omega arith in
          rw (old i (omega arith), q, new) (rw b at W.ends)
      joined i (inr h) = rw (old i (omega arith), old (i + 1) h) (W.joined i h)

      ends : get_or dst (get_or (set out k e) (k + 1 - 1) 0) 0 ≡ at
      ends =
          let b : k + 1 - 1 ≡ k = omega arith in
          rw (b, new) E.leads

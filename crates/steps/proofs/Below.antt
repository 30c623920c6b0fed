-- Fewer members stand downstream of a member than the plan has: their rows ascend, and none names the member itself.
-- Assumes nothing.
use Prim.Native.Nat.{ℕ, zero, suc, ◌+◌, ◌<◌, ◌≤◌}
use native.Mathlib.Omega.{arith}
use mathlib.Core.Path.{◌≡◌, refl, sym, ap, ◌∙◌}
use mathlib.Core.Bool.{Bool, true, false}
use mathlib.Core.Logic.{◌⊎◌, inl, inr, ⊎_elim}
use mathlib.Core.List.{List}
use lib.Dec.{ltb, eqb}
use borrow.Author.Tests.{eqb-false, lt-ltb, ltb-true, ltb-false}
use Rattle.tags.proofs.Order.{clash}
use Rattle.plans.specs.Nets.{none}
use Rattle.states.proofs.Counts.{not_own}
use Rattle.states.proofs.Laws.{eq-or-less}
use Rattle.rows.specs.Rows.{members, downstream_target, downstream_first, downstream_count}
use Rattle.rows.specs.Loops.{delay_of, Ascends}
use Rattle.rows.specs.Nets.{net_in, Ordered}

module _ (name : ℕ → ℕ) (first i : ℕ) where
  -- what a row names has a delay
  named : (count c : ℕ) → c < count → name (first + c) ≡ i → delay_of name (λ k. 0) first count i < none
  unfolding delay_of
  named zero c l e = absurd (omega arith)
  named (suc n) c l e = go (eqb (name (first + n)) i) refl (λ m. named n c m e)
    where
      go : (b : Bool) → eqb (name (first + n)) i ≡ b → (c < n → delay_of name (λ k. 0) first n i < none) → delay_of name (λ k. 0) first (suc n) i < none
      go true q ih = rw q (omega arith)
      go false q ih = rw q (⊎_elim (λ (z : c ≡ n). absurd (eqb-false (name (first + n)) i q (ap (λ (k : ℕ). name (first + k)) (sym z) ∙ e))) (λ (m : c < n). ih m) (eq-or-less c n l))

  module _ (count n : ℕ) (up : Ascends name first count n) (other : (c : ℕ) → c < count → name (first + c) ≡ i → ⊥) where
    climb : (c : ℕ) → c < count → (c ≤ name (first + c)) × (i < name (first + c) → suc c ≤ name (first + c))
    climb zero l = (omega arith, λ h. omega arith)
    climb (suc c) l =
        let ih = climb c (omega arith) in
        let more = up.up c (suc c) (omega arith) l in
        (omega arith, λ h. go (ltb i (name (first + c))) refl ih more h)
      where
        go : (b : Bool) → ltb i (name (first + c)) ≡ b → (c ≤ name (first + c)) × (i < name (first + c) → suc c ≤ name (first + c)) → name (first + c) < name (first + suc c) → i < name (first + suc c) → suc (suc c) ≤ name (first + suc c)
        go true q ih more h = omega (arith, ih.1 (ltb-true i (name (first + c)) q))
        go false q ih more h =
            let low : name (first + c) ≤ i = ltb-false i (name (first + c)) q in
            ⊎_elim (λ (z : name (first + c) ≡ i). absurd (other c (omega arith) z)) (λ (m : name (first + c) < i). omega arith) (eq-or-less (name (first + c)) i (omega arith))

    fewer : i < n → count < n
    fewer h = go count refl
      where
        go : (k : ℕ) → count ≡ k → k < n
        go zero e = omega arith
        go (suc c) e =
            let l : c < count = omega arith in
            let q = climb c l in
            let w = up.inside c l in
            ⊎_elim (λ (m : i < name (first + c)). omega (arith, q.1 m)) (λ (m : name (first + c) ≤ i). ⊎_elim (λ (z : name (first + c) ≡ i). absurd (other c l z)) (λ (p : name (first + c) < i). omega arith) (eq-or-less (name (first + c)) i (omega arith))) (sides i (name (first + c)))
          where
            sides : (a b : ℕ) → (a < b) ⊎ (b ≤ a)
            sides a b = by (ltb a b) refl
              where
                by : (t : Bool) → ltb a b ≡ t → (a < b) ⊎ (b ≤ a)
                by true y = inl (ltb-true a b y)
                by false y = inr (ltb-false a b y)

pub fewer-below : (b : List ℕ) → Ordered b → (i : ℕ) → i < members b → downstream_count b i < members b
fewer-below b ordered i l =
    fewer (downstream_target b) (downstream_first b i) i (downstream_count b i) (members b) (ordered.downstreams i l)
    (λ c k e. absurd (own (lt-ltb _ _ (named (downstream_target b) (downstream_first b i) i (downstream_count b i) c k e)))) l
  where
    own : ltb (delay_of (downstream_target b) (λ k. 0) (downstream_first b i) (downstream_count b i) i) none ≡ true → ⊥
    own h = clash (sym (not_own (net_in b) i) ∙ ordered.below i i l l ∙ h)

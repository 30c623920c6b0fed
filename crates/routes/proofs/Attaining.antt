-- Going back by marked edges ends within 32 edges, and what is written attains the minimum.
-- Assumes nothing.
use mathlib.Core.Bool.{Bool, true, false}
use mathlib.Core.Path.{◌≡◌, refl, sym, ap, ◌∙◌}
use mathlib.Core.Logic.{◌⊎◌, ⊎_elim, inl, inr}
use mathlib.Core.List.{List}
use Prim.Native.Nat.{ℕ, zero, suc, ◌+◌, ◌-◌, ◌<◌, ◌≤◌}
use native.Mathlib.Omega.{arith}
use native.Mathlib.Nat.{eq-or-lt_of_le, add_assoc}
use native.Mathlib.Numerals.{add-one}
use native.Mathlib.Decide.{ℕ_discrete}
use borrow.Author.Tests.{eqb-true, lt-ltb, le-ltb, eq-eqb, ne_eqb}
use lib.Dec.{ltb, eqb}
use lib.ListN.{length, get_or, take, replicate}
use lib.Seq.{length-take-le, get_or-take}
use Rattle.basis.specs.Choice.{both, either}
use Rattle.plans.specs.declared.Plan.{Plan}
use Rattle.plans.specs.Values.{Fits}
use Rattle.delays.specs.Graph.{far, Walk as Path, last, then, EdgeOf, minimum_of}
use Rattle.delays.specs.Cells.{grid, Held}
use Rattle.delays.specs.Refusals.{refusal_of}
use Rattle.delays.specs.Search.{first}
use Rattle.delays.proofs.Walks.{le-or-lt}
use Rattle.delays.proofs.Order.{minimum-least, triangle-sum, Strict, NoDelay}
use Rattle.delays.proofs.Found.{taken, taken-strict}
use Rattle.routes.specs.declared.Walk.{Walk}
use Rattle.routes.specs.Paths.{delay_sum, PathRight, Answered, mark_of, Marked, enters, Back, Written}
use Rattle.routes.proofs.Marks.{Meaning, out, alone, after, off, meaning, mark-agree}
use Rattle.routes.proofs.Tallies.{tally, tally-below, tally-strict}
use Rattle.routes.proofs.Traces.{Entering, is_found}

-- unused places are 0
pub zeros : (n i : ℕ) → ◌≡◌ {A = ℕ} (get_or (replicate n 0) i 0) 0
zeros zero i = refl
zeros (suc n) zero = refl
zeros (suc n) (suc i) = zeros n i

-- ---- the last edge of a path
pub data Ending (E : ℕ → ℕ → ℕ → Type 0) (s t d : ℕ) : Type 0 where
  one : E s t d → Ending E s t d
  more : {m a b : ℕ} → Path E s m a → E m t b → a + b ≡ d → Ending E s t d

pub ending : (E : ℕ → ℕ → ℕ → Type 0) {s t d : ℕ} → Path E s t d → Ending E s t d
ending E (last x) = one x
ending E (then x w) = go x (ending E w)
  where
    go : {s m t d e : ℕ} → E s m d → Ending E m t e → Ending E s t (d + e)
    go x (one y) = more (last x) y refl
    go {d = d} {e = e} x (more {a = a} {b = b} v y q) = more (then x v) y (add_assoc d a b ∙ ap (λ (n : ℕ). d + n) q)

module _ (p : Plan) (F : Fits p) (w : (i : ℕ) → get_or p.delays i 0 < far) (from : ℕ) where
  abbrev g : ℕ → ℕ
  g x = minimum_of p from x

  -- ---- some marked edge leads to each member that is reached
  module _ (marks : List ℕ) (M : Marked p.sources p.targets p.delays p.edges (minimum_of p from) from (replicate 256 0) marks) where
    abbrev mark : ℕ → ℕ
    mark e = mark_of g from (get_or p.sources e 0) (get_or p.targets e 0) (get_or p.delays e 0)

    mean : (e : ℕ) → Meaning g from (get_or p.sources e 0) (get_or p.targets e 0) (get_or p.delays e 0)
    mean e = meaning g from (get_or p.sources e 0) (get_or p.targets e 0) (get_or p.delays e 0)

    -- a marked edge is one of the plan
    pub marked-in : (e : ℕ) → (get_or marks e 0 ≡ 0 → ⊥) → e < p.edges
    marked-in e d = ⊎_elim (λ h. absurd (d (M.rest e h ∙ zeros 256 e))) (λ h. h) (le-or-lt p.edges e)

    pub marked-alone : (e : ℕ) → get_or marks e 0 ≡ 2 → (get_or p.sources e 0 ≡ from) × (get_or p.delays e 0 ≡ g (get_or p.targets e 0)) × (g (get_or p.targets e 0) < far)
    marked-alone e q = go (mean e)
      where
        m : get_or marks e 0 ≡ mark e
        m = M.set e (marked-in e (λ z. absurd (omega arith)))

        go : Meaning g from (get_or p.sources e 0) (get_or p.targets e 0) (get_or p.delays e 0) → (get_or p.sources e 0 ≡ from) × (get_or p.delays e 0 ≡ g (get_or p.targets e 0)) × (g (get_or p.targets e 0) < far)
        go (out h k) = absurd (omega (arith, m, k))
        go (alone h a b k) = (a, b, h)
        go (after h a k) = absurd (omega (arith, m, k))
        go (off h a b k) = absurd (omega (arith, m, k))

    pub marked-after : (e : ℕ) → (get_or marks e 0 ≡ 0 → ⊥) → (get_or marks e 0 ≡ 2 → ⊥) → (g (get_or p.sources e 0) + get_or p.delays e 0 ≡ g (get_or p.targets e 0)) × (g (get_or p.targets e 0) < far)
    marked-after e d f = go (mean e)
      where
        m : get_or marks e 0 ≡ mark e
        m = M.set e (marked-in e d)

        go : Meaning g from (get_or p.sources e 0) (get_or p.targets e 0) (get_or p.delays e 0) → (g (get_or p.sources e 0) + get_or p.delays e 0 ≡ g (get_or p.targets e 0)) × (g (get_or p.targets e 0) < far)
        go (out h k) = absurd (d (m ∙ k))
        go (alone h a b k) = absurd (f (m ∙ k))
        go (after h a k) = (a, h)
        go (off h a b k) = absurd (d (m ∙ k))

    -- a marked edge leads to a member that is reached
    pub marked-near : (e : ℕ) → (get_or marks e 0 ≡ 0 → ⊥) → g (get_or p.targets e 0) < far
    marked-near e d = go (ℕ_discrete (get_or marks e 0) 2)
      where
        go : Dec (get_or marks e 0 ≡ 2) → g (get_or p.targets e 0) < far
        go (yes q) = (marked-alone e q).2
        go (no n) = (marked-after e d n).1

    -- an edge that attains the minimum is marked
    attains : (e t : ℕ) → e < p.edges → get_or p.targets e 0 ≡ t → g t < far
        → ((get_or p.sources e 0 ≡ from) × (get_or p.delays e 0 ≡ g t)) ⊎ (g (get_or p.sources e 0) + get_or p.delays e 0 ≡ g t) → Entering p.targets marks t e
    attains e t h q l c = record { inside = omega (arith, F.routed); leads = q; marked = λ z. go z (mean e) c }
      where
        m : get_or marks e 0 ≡ mark e
        m = M.set e h

        same : g (get_or p.targets e 0) ≡ g t
        same = ap g q

        go : get_or marks e 0 ≡ 0 → Meaning g from (get_or p.sources e 0) (get_or p.targets e 0) (get_or p.delays e 0)
            → ((get_or p.sources e 0 ≡ from) × (get_or p.delays e 0 ≡ g t)) ⊎ (g (get_or p.sources e 0) + get_or p.delays e 0 ≡ g t) → ⊥
        go z (out x k) c = omega (arith, same)
        go z (alone x a b k) c = omega (arith, m, k)
        go z (after x a k) c = omega (arith, m, k)
        go z (off x a b k) (inl c) = a c.0 (c.1 ∙ sym same)
        go z (off x a b k) (inr c) = b (c ∙ sym same)

    pub reached : (t : ℕ) → g t < far → (e : ℕ) × Entering p.targets marks t e
    reached t h =
        let u = (minimum-least p F w from t).met (omega arith) in
        go u.0 (omega (arith, u.2)) (ending (EdgeOf p) u.1)
      where
        go : (d : ℕ) → d ≡ g t → Ending (EdgeOf p) from t d → (e : ℕ) × Entering p.targets marks t e
        go d q (one x) = (x.at, attains x.at t x.inside x.to h (inl (x.from, x.cost ∙ q)))
        go d q (more {m = m} {a = a} {b = b} v x s) =
            let y = (minimum-least p F w from m).low a v in
            let k = (minimum-least p F w m t).low b (last x) in
            let r = triangle-sum p F w from m t in
            let e : g m + b ≡ g t = omega arith in
            (x.at, attains x.at t x.inside x.to h (inr (rw (x.from, x.cost) e)))

    -- ---- a marked edge comes from a member before
    module _ (z : (refusal_of p).number ≡ 0) where
      S : Strict (NoDelay p)
      S = taken-strict p F w z

      -- x is nearer, or as near and a path of no delay leads on from it
      abbrev before : ℕ → ℕ → Bool
      before y x = either (ltb (g x) (g y)) (both (eqb (g x) (g y)) (eqb (minimum_of p x y) 0))

      abbrev Before : ℕ → ℕ → Type 0
      Before x y = (g x < g y) ⊎ ((g x ≡ g y) × (minimum_of p x y ≡ 0))

      before-only : (x y : ℕ) → before y x ≡ true → Before x y
      before-only x y e = ⊎_elim (λ h. inr (second h)) (λ h. inl h) (le-or-lt (g y) (g x))
        where
          second : g y ≤ g x → (g x ≡ g y) × (minimum_of p x y ≡ 0)
          second h = split (eqb (g x) (g y)) refl (eqb (minimum_of p x y) 0) refl (rw (le-ltb (g x) (g y) h) at e)
            where
              split : (a : Bool) → eqb (g x) (g y) ≡ a → (b : Bool) → eqb (minimum_of p x y) 0 ≡ b → both a b ≡ true → (g x ≡ g y) × (minimum_of p x y ≡ 0)
              split true i true j k = (eqb-true _ _ i, eqb-true _ _ j)
              split true i false j k = let z : ◌≡◌ {A = ℕ} 0 1 = cc in absurd (omega arith)
              split false i b j k = let z : ◌≡◌ {A = ℕ} 0 1 = cc in absurd (omega arith)

      before-if : (x y : ℕ) → Before x y → before y x ≡ true
      before-if x y (inl h) = rw (lt-ltb (g x) (g y) h) refl
      before-if x y (inr h) = rw (le-ltb (g x) (g y) (omega (arith, h.0)), eq-eqb (g x) (g y) h.0, eq-eqb (minimum_of p x y) 0 h.1) refl

      before-not : (x : ℕ) → before x x ≡ false
      before-not x = rw (le-ltb (g x) (g x) (omega arith), eq-eqb (g x) (g x) refl, ne_eqb (minimum_of p x x) 0 (S.irreflexive x)) refl

      before_on : (x y t : ℕ) → Before x y → Before y t → Before x t
      before_on x y t (inl a) (inl b) = inl (omega arith)
      before_on x y t (inl a) (inr b) = inl (omega (arith, b.0))
      before_on x y t (inr a) (inl b) = inl (omega (arith, a.0))
      before_on x y t (inr a) (inr b) = inr (a.0 ∙ b.0, S.transitive x y t a.1 b.1)

      abbrev rank : ℕ → ℕ
      rank t = tally (before t) p.members

      step : (e : ℕ) → e < p.edges → g (get_or p.sources e 0) + get_or p.delays e 0 ≡ g (get_or p.targets e 0) → Before (get_or p.sources e 0) (get_or p.targets e 0)
      step e h q = go (ℕ_discrete (get_or p.delays e 0) 0)
        where
          go : Dec (get_or p.delays e 0 ≡ 0) → Before (get_or p.sources e 0) (get_or p.targets e 0)
          go (yes d) =
              let k = (minimum-least p F w (get_or p.sources e 0) (get_or p.targets e 0)).low (get_or p.delays e 0) (last (record { at = e; inside = h; from = refl; to = refl; cost = refl })) in
              inr (omega arith, omega arith)
          go (no d) = inl (omega arith)

      -- fewer members stand before the one that the edge leaves
      falls : (s t : ℕ) → s < p.members → Before s t → rank s < rank t
      falls s t h b =
          tally-strict (before s) (before t) (λ x e. before-if x t (before_on x s t (before-only x s e) b)) p.members s h (before-not s) (before-if s t b)

      pub ends-back : (left t : ℕ) → g t < far → rank t < left → Back p.sources p.targets marks t left
      unfolding Back
      ends-back zero t h r = absurd (omega arith)
      ends-back (suc left) t h r =
          let u = reached t h in
          ((u.0, u.1.inside, u.1.leads, u.1.marked), on (ends-back left))
        where
          on : ((s : ℕ) → g s < far → rank s < left → Back p.sources p.targets marks s left) → (k : ℕ) → k < 256 → get_or p.targets k 0 ≡ t → (get_or marks k 0 ≡ 0 → ⊥) → (get_or marks k 0 ≡ 2 → ⊥) → Back p.sources p.targets marks (get_or p.sources k 0) left
          on again k l q d f =
              let m = marked-after k d f in
              let i = marked-in k d in
              let b = rw q at (step k i m.0) in
              let n : g (get_or p.targets k 0) ≡ g t = ap g q in
              again (get_or p.sources k 0) (omega (arith, m.0)) (omega (arith, falls (get_or p.sources k 0) t (F.from k i) b))

      -- 32 edges are enough
      pub enough : (t : ℕ) → t < p.members → g t < far → Back p.sources p.targets marks t 32
      enough t l h = ends-back 32 t h (omega (arith, tally-below (before t) p.members t l (before-not t), F.few))

      -- ---- what is written
      module _ (was es : List ℕ) (t r : ℕ) (W : Written p.sources p.targets marks was es t 32 r) (long : length es ≡ 32) where
        marked : (i : ℕ) → i < r → get_or marks (get_or es i 0) 0 ≡ 0 → ⊥
        marked zero h k = omega (arith, W.first)
        marked (suc i) h k = (W.later (suc i) (omega arith) h).0 k

        sum : (k : ℕ) → k < r → delay_sum p.delays es (suc k) ≡ g (get_or p.targets (get_or es k 0) 0)
        unfolding delay_sum
        sum zero h = omega (arith, (marked-alone (get_or es 0 0) W.first).1)
        sum (suc k) h =
            let m = (marked-after (get_or es (suc k) 0) (marked (suc k) h) (W.later (suc k) (omega arith) h).1).0 in
            let j : get_or p.targets (get_or es k 0) 0 ≡ get_or p.sources (get_or es (suc k) 0) 0 = rw add-one at (W.joined k (omega arith)) in
            omega (arith, sum k (omega arith), ap g j, m)

        taken-long : length (take r es) ≡ r
        taken-long = length-take-le r es (omega (arith, W.few))

        same : (i : ℕ) → i < r → get_or (take r es) i 0 ≡ get_or es i 0
        same i h = get_or-take r es i 0 h

        same_sum : (k : ℕ) → k ≤ r → delay_sum p.delays (take r es) k ≡ delay_sum p.delays es k
        unfolding delay_sum
        same_sum zero h = refl
        same_sum (suc k) h = rw (same_sum k (omega arith), same k h) refl

        pub path-right : PathRight p from t (take r es)
        path-right =
            let s = W.some in
            let n : suc (r - 1) ≡ r = omega arith in
            record {
              some = omega (arith, taken-long);
              few = omega (arith, taken-long, W.few);
              inside = λ i h. let k : i < r = omega (arith, taken-long) in rw (same i k) (marked-in (get_or es i 0) (marked i k));
              starts = rw (same 0 (omega arith)) (marked-alone (get_or es 0 0) W.first).0;
              joined = λ i h. let k : i + 1 < r = omega (arith, taken-long) in rw (same i (omega arith), same (i + 1) k) (W.joined i k);
              ends = rw (taken-long, same (r - 1) (omega arith)) W.ends;
              least = rw (taken-long, same_sum r (omega arith)) (rw n at (sum (r - 1) (omega arith)) ∙ ap g W.ends);
            }

        pub answered : ((i : ℕ) → get_or was i 0 ≡ 0) → g t < far → Answered p from t (record { count = r; edges = es })
        answered blank near =
            record {
              right = λ h. path-right;
              missing = (λ e. absurd (omega (arith, W.some)), λ n. absurd (let u = (minimum-least p F w from t).met (omega arith) in n u.0 u.1));
              few = W.few;
              blank = λ i h. W.rest i h ∙ blank i;
            }

      -- nothing is found: there is no path
      pub unanswered : (es : List ℕ) (t e : ℕ) → ((i : ℕ) → get_or es i 0 ≡ 0) → from < p.members → t < p.members
          → e ≡ first (enters p.targets marks t) 0 256 → 256 ≤ e → Answered p from t (record { count = 0; edges = es })
      unanswered es t e blank a b q h =
          record {
            right = λ k. absurd (omega arith);
            missing = (λ _ d P. no d P, λ _. refl);
            few = omega arith;
            blank = λ i k. blank i;
          }
        where
          no : (d : ℕ) → Path (EdgeOf p) from t d → ⊥
          no d P =
              let l = (minimum-least p F w from t).low d P in
              let f = (taken p F w z).1 from t a b in
              let c : g t < far = ⊎_elim (λ x. absurd (f x)) (λ x. x) (eq-or-lt_of_le (omega arith)) in
              let u = reached t c in
              omega (arith, is_found p.targets marks t e q u.0 u.1)

-- ---- the marks are by the minimum delays
pub marked-held : (p : Plan) → Fits p → (ks vs : List ℕ) (from : ℕ) (was marks : List ℕ) → Held ks vs (minimum_of p) → from < 32
    → Marked p.sources p.targets p.delays p.edges (grid ks vs from) from was marks
    → Marked p.sources p.targets p.delays p.edges (minimum_of p from) from was marks
marked-held p F ks vs from was marks H l M =
    record {
      set = λ i h. M.set i h ∙ mark-agree _ _ from (get_or p.sources i 0) (get_or p.targets i 0) (get_or p.delays i 0)
          (H.at from (get_or p.sources i 0) l (omega (arith, F.from i h, F.few)))
          (H.at from (get_or p.targets i 0) l (omega (arith, F.to i h, F.few)));
      rest = M.rest;
    }

-- ---- a position that is no member's
module _ (p : Plan) (F : Fits p) where
  starts_in : {s t d : ℕ} → Path (EdgeOf p) s t d → s < p.members
  starts_in (last x) = omega (arith, F.from x.at x.inside, x.from)
  starts_in (then x q) = omega (arith, F.from x.at x.inside, x.from)

  ends_in : {s t d : ℕ} → Path (EdgeOf p) s t d → t < p.members
  ends_in (last x) = omega (arith, F.to x.at x.inside, x.to)
  ends_in (then x q) = ends_in q

  pub outside : (s t : ℕ) (u : Walk) → (p.members ≤ s) ⊎ (p.members ≤ t) → u.count ≡ 0 → ((i : ℕ) → get_or u.edges i 0 ≡ 0) → Answered p s t u
  outside s t u o c blank =
      record {
        right = λ k. absurd (omega arith);
        missing = (λ _ d P. no P o, λ _. c);
        few = omega arith;
        blank = λ i k. blank i;
      }
    where
      no : {d : ℕ} → Path (EdgeOf p) s t d → (p.members ≤ s) ⊎ (p.members ≤ t) → ⊥
      no P (inl h) = omega (arith, starts_in P)
      no P (inr h) = omega (arith, ends_in P)

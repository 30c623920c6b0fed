-- The check of a witness accepts exactly the closed walks without delay.
-- Assumes nothing.
use mathlib.Core.Bool.{Bool, true, false}
use mathlib.Core.Path.{◌≡◌, refl, sym, ap, ap₂, ◌∙◌}
use mathlib.Core.Logic.{◌↔◌}
use mathlib.Core.List.{List}
use Prim.Native.Nat.{ℕ, ◌+◌, ◌-◌, ◌<◌, ◌≤◌}
use native.Mathlib.Omega.{arith}
use native.Mathlib.Decide.{ℕ_discrete}
use borrow.Author.Tests.{ltb-true, leb-true, eqb-true, lt-ltb, le-leb, lt-leb, eq-eqb, ne_eqb}
use lib.Dec.{eqb}
use lib.ListN.{length, get_or, take}
use lib.Seq.{length-take-le, get_or-take}
use Rattle.plans.specs.declared.Plan.{Plan}
use Rattle.plans.specs.Reading.{Reading, reading_of}
use Rattle.routes.specs.declared.Walk.{Walk}
use Rattle.routes.specs.Closed.{ClosedZero, after, goes_on, closing, closes_zero, listed, accepts}
use Rattle.routes.proofs.Every.{both_true, both_if, both-second, every-at, every_if, every-agree}

-- ---- the place after
pub after_last : (n i : ℕ) → i + 1 ≡ n → after n i ≡ 0
unfolding after
after_last n i e = rw (eq-eqb (i + 1) n e) refl

pub after_more : (n i : ℕ) → (i + 1 ≡ n → ⊥) → after n i ≡ i + 1
unfolding after
after_more n i d = rw (ne_eqb (i + 1) n d) refl

pub after-below : (n i : ℕ) → i < n → after n i < n
after-below n i h = go (ℕ_discrete (i + 1) n)
  where
    go : Dec (i + 1 ≡ n) → after n i < n
    go (yes e) = omega (arith, after_last n i e)
    go (no d) = omega (arith, after_more n i d)

-- ---- one step
pub record Goes (src dst delay : List ℕ) (m x y : ℕ) : Type 0 where
  pub here : x < m
  pub there : y < m
  pub still : get_or delay x 0 ≡ 0
  pub joined : get_or dst x 0 ≡ get_or src y 0

module _ (src dst delay : List ℕ) (m x y : ℕ) where
  pub goes-only : goes_on src dst delay m x y ≡ true → Goes src dst delay m x y
  unfolding goes_on
  goes-only e =
      let a = both_true _ _ e in
      let b = both_true _ _ a.1 in
      let c = both_true _ _ b.1 in
      record {
        here = ltb-true _ _ a.0;
        there = ltb-true _ _ b.0;
        still = eqb-true _ _ c.0;
        joined = eqb-true _ _ c.1;
      }

  pub goes_if : Goes src dst delay m x y → goes_on src dst delay m x y ≡ true
  unfolding goes_on
  goes_if g =
      both_if _ _ (lt-ltb _ _ g.here)
      (both_if _ _ (lt-ltb _ _ g.there)
      (both_if _ _ (eq-eqb _ _ g.still) (eq-eqb _ _ g.joined)))

-- ---- a walk by value
pub closing-taken : (src dst delay : List ℕ) (m n : ℕ) (es : List ℕ) → closing src dst delay m n es ≡ closing src dst delay m n (take n es)
unfolding closing
closing-taken src dst delay m n es =
    every-agree _ _ n
    (λ i h. ap₂ (goes_on src dst delay m) (sym (get_or-take n es i 0 h)) (sym (get_or-take n es (after n i) 0 (after-below n i h))))

module _ (p : Plan) (n : ℕ) (es : List ℕ) (long : length es ≡ 32) (few : n ≤ 32) where
  taken : length (take n es) ≡ n
  taken = length-take-le n es (omega arith)

  pub closes-none : n ≡ 0 → false ≡ closes_zero p (take n es)
  unfolding closes_zero
  closes-none e = rw (taken, e) refl

  pub closes-some : (n ≡ 0 → ⊥) → closing p.sources p.targets p.delays p.edges n es ≡ closes_zero p (take n es)
  unfolding closes_zero
  closes-some d =
      let a : 0 < n = omega arith in
      closing-taken p.sources p.targets p.delays p.edges n es ∙ rw (taken, lt-ltb 0 n a, le-leb n 32 few) refl

-- ---- the test is the definition
pub closes-right : (p : Plan) (ws : List ℕ) → (closes_zero p ws ≡ true) ↔ ClosedZero p ws
unfolding closes_zero closing
closes-right p ws = (there, back)
  where
    n : ℕ
    n = length ws

    at : ℕ → ℕ
    at i = get_or ws i 0

    there : closes_zero p ws ≡ true → ClosedZero p ws
    there e =
        let a = both_true _ _ e in
        let b = both_true _ _ a.1 in
        let some = ltb-true 0 n a.0 in
        let goes : (i : ℕ) → i < n → Goes p.sources p.targets p.delays p.edges (at i) (at (after n i)) =
        λ i h. goes-only p.sources p.targets p.delays p.edges (at i) (at (after n i)) (every-at _ n b.1 i h) in
        record {
          some = some;
          few = leb-true n 32 b.0;
          inside = λ i h. (goes i h).here;
          still = λ i h. (goes i h).still;
          joined = λ i h. (goes i (omega arith)).joined ∙ ap (λ (k : ℕ). get_or p.sources (get_or ws k 0) 0) (after_more n i (omega arith));
          closed = (goes (n - 1) (omega arith)).joined ∙ ap (λ (k : ℕ). get_or p.sources (get_or ws k 0) 0) (after_last n (n - 1) (omega arith));
        }

    back : ClosedZero p ws → closes_zero p ws ≡ true
    back C =
        both_if _ _ (lt-ltb 0 n C.some)
        (both_if _ _ (le-leb n 32 C.few)
        (every_if _ n (λ i h. goes_if p.sources p.targets p.delays p.edges (at i) (at (after n i)) (step i h))))
      where
        on : (i : ℕ) → i < n → Dec (i + 1 ≡ n) → get_or p.targets (at i) 0 ≡ get_or p.sources (at (after n i)) 0
        on i h (yes e) =
            let q : n - 1 ≡ i = omega arith in
            ap (λ (k : ℕ). get_or p.targets (get_or ws k 0) 0) (sym q) ∙ C.closed ∙ ap (λ (k : ℕ). get_or p.sources (get_or ws k 0) 0) (sym (after_last n i e))
        on i h (no d) = C.joined i (omega arith) ∙ ap (λ (k : ℕ). get_or p.sources (get_or ws k 0) 0) (sym (after_more n i d))

        step : (i : ℕ) → i < n → Goes p.sources p.targets p.delays p.edges (at i) (at (after n i))
        step i h =
            record {
              here = C.inside i h;
              there = C.inside (after n i) (after-below n i h);
              still = C.still i h;
              joined = on i h (ℕ_discrete (i + 1) n);
            }

-- ---- the check, by its three answers
pub accepts-refused : (b : List ℕ) (w : Walk) (r : Reading) → r ≡ reading_of b → (r.refusal.number ≡ 0 → ⊥) → false ≡ accepts b w
unfolding accepts
accepts-refused b w r e d = rw (← e, ne_eqb r.refusal.number 0 d) refl

pub accepts-long : (b : List ℕ) (w : Walk) → 32 < w.count → false ≡ accepts b w
unfolding accepts
accepts-long b w h = rw (lt-leb w.count 32 h) (sym (both-second (eqb (reading_of b).refusal.number 0) false refl))

pub accepts-by : (b : List ℕ) (w : Walk) (r : Reading) (x : Bool) → r ≡ reading_of b → r.refusal.number ≡ 0 → w.count ≤ 32
    → x ≡ closes_zero r.plan (listed w) → x ≡ accepts b w
unfolding accepts
accepts-by b w r x e z h q = rw (← e, eq-eqb r.refusal.number 0 z, le-leb w.count 32 h) q

-- "accepts exactly these, none under 1 to 7"
pub accepts-right : (b : List ℕ) (w : Walk)
    → (accepts b w ≡ true) ↔ (((reading_of b).refusal.number ≡ 0) × (w.count ≤ 32) × ClosedZero (reading_of b).plan (listed w))
unfolding accepts
accepts-right b w = (there, λ h. both_if _ _ (eq-eqb _ _ h.0) (both_if _ _ (le-leb _ _ h.1) ((closes-right _ _).1 h.2)))
  where
    there : accepts b w ≡ true → ((reading_of b).refusal.number ≡ 0) × (w.count ≤ 32) × ClosedZero (reading_of b).plan (listed w)
    there e =
        let x = both_true _ _ e in
        let y = both_true _ _ x.1 in
        (eqb-true _ _ x.0, leb-true _ _ y.0, (closes-right (reading_of b).plan (listed w)).0 y.1)

-- What the minimum delays are to each other: never above the direct, never above a way round, and of no delay only one way.
-- Assumes nothing.
use mathlib.Core.Path.{◌≡◌, refl}
use mathlib.Core.Bool.{Bool, true, false}
use mathlib.Core.Logic.{◌⊎◌, inl, inr}
use mathlib.Core.List.{List}
use Prim.Native.Nat.{ℕ, zero, suc, ◌+◌, ◌<◌, ◌≤◌, min}
use native.Mathlib.Omega.{arith}
use native.Mathlib.Nat.{add_assoc}
use lib.Dec.{eqb}
use lib.ListN.{get_or}
use Rattle.basis.specs.Choice.{pick}
use Rattle.plans.specs.declared.Plan.{Plan}
use Rattle.plans.specs.Values.{Fits}
use Rattle.delays.specs.Graph.{far, none, plus, next, via, cost, direct, Walk, last, then, reach_of, EdgeOf, direct_of, minimum_of}
use Rattle.delays.proofs.Walks.{Least, least-direct, least-delay, Right, right}
use Rattle.delays.proofs.Cycles.{Quick, Cycles, cycles}
use Rattle.delays.proofs.Plans.{edges-of}

-- a round never raises an entry
pub via-below : (g : ℕ → ℕ → ℕ) (k s t : ℕ) → via g k s t ≤ g s t
unfolding via next
via-below g zero s t = omega arith
via-below g (suc k) s t = omega (arith, via-below g k s t)

pub direct-top : (src dst delay : List ℕ) (m s t : ℕ) → direct src dst delay m s t ≤ none
unfolding direct
direct-top src dst delay zero s t = omega arith
direct-top src dst delay (suc i) s t = omega (arith, direct-top src dst delay i s t)

pub joined : (E : ℕ → ℕ → ℕ → Type 0) {s u t d e : ℕ} → Walk E s u d → Walk E u t e → Walk E s t (d + e)
joined E (last x) w = then x w
joined E (then x v) w = rw add_assoc (then x (joined E v w))

-- a number of the three kinds
abbrev pub Whole : ℕ → Type 0
Whole v = (v ≤ far) ⊎ (v ≡ none)

whole_min : (a b : ℕ) → Whole a → Whole b → Whole (min a b)
whole_min a b (inl p) q = inl (omega arith)
whole_min a b (inr p) (inl q) = inl (omega arith)
whole_min a b (inr p) (inr q) = inr (omega arith)

whole-plus : (a b : ℕ) → Whole a → Whole b → Whole (plus a b)
unfolding plus
whole-plus a b (inl p) (inl q) = inl (omega arith)
whole-plus a b (inl p) (inr q) = inr (omega arith)
whole-plus a b (inr p) (inl q) = inr (omega arith)
whole-plus a b (inr p) (inr q) = inr (omega arith)

whole-cost : (src dst delay : List ℕ) → ((i : ℕ) → get_or delay i 0 < far) → (i s t : ℕ) → Whole (cost src dst delay i s t)
unfolding cost
whole-cost src dst delay w i s t = go (eqb (get_or src i 0) s) (eqb (get_or dst i 0) t) (w i)
  where
    go : (x y : Bool) → get_or delay i 0 < far → Whole (pick x (pick y (get_or delay i 0) none) none)
    go true true h = inl (omega arith)
    go true false h = inr refl
    go false y h = inr refl

pub whole-direct : (src dst delay : List ℕ) → ((i : ℕ) → get_or delay i 0 < far) → (m s t : ℕ) → Whole (direct src dst delay m s t)
unfolding direct
whole-direct src dst delay w zero s t = inr refl
whole-direct src dst delay w (suc i) s t = whole_min _ _ (whole-direct src dst delay w i s t) (whole-cost src dst delay w i s t)

pub whole-via : (g : ℕ → ℕ → ℕ) → ((s t : ℕ) → Whole (g s t)) → (k s t : ℕ) → Whole (via g k s t)
unfolding via next
whole-via g h zero s t = h s t
whole-via g h (suc k) s t = whole_min _ _ (whole-via g h k s t) (whole-plus _ _ (whole-via g h k s k) (whole-via g h k k t))

-- the least over walks is never above the least by way of u
pub least-round : (E : ℕ → ℕ → ℕ → Type 0) (s u t x a b : ℕ) → Whole x → Whole a → Whole b
    → Least (Walk E s t) x → Least (Walk E s u) a → Least (Walk E u t) b → x ≤ plus a b
unfolding plus
least-round E s u t x a b (inl r) (inl p) (inl q) X A B =
    let v = A.met p in
    let w = B.met q in
    omega (arith, v.2, w.2, X.low (v.0 + w.0) (joined E v.1 w.1))
least-round E s u t x a b (inr r) (inl p) (inl q) X A B =
    let v = A.met p in
    let w = B.met q in
    absurd (omega (arith, X.low (v.0 + w.0) (joined E v.1 w.1)))
least-round E s u t x a b (inl r) (inl p) (inr q) X A B = omega arith
least-round E s u t x a b (inl r) (inr p) q X A B = omega arith
least-round E s u t x a b (inr r) (inl p) (inr q) X A B = omega arith
least-round E s u t x a b (inr r) (inr p) q X A B = omega arith

pub record Strict (R : ℕ → ℕ → Type 0) : Type 0 where
  pub irreflexive : (i : ℕ) → R i i → ⊥
  pub transitive : (i j k : ℕ) → R i j → R j k → R i k
  pub asymmetric : (i j : ℕ) → R i j → R j i → ⊥

-- no delay from i to j
abbrev pub NoDelay : Plan → ℕ → ℕ → Type 0
NoDelay p i j = minimum_of p i j ≡ 0

-- of a plan that fits, whose delays are words
module _ (p : Plan) (F : Fits p) (w : (i : ℕ) → get_or p.delays i 0 < far) where
  -- least over all walks of one or more edges: no walk is less, and one attains it
  pub minimum-least : (s t : ℕ) → Least (Walk (EdgeOf p) s t) (minimum_of p s t)
  minimum-least = least-delay p.sources p.targets p.delays p.edges p.members (edges-of p F w)

  -- the same by its view, both ways: a delay, too far, none
  pub minimum-right : (s t : ℕ) → Right (Walk (EdgeOf p) s t) (reach_of (minimum_of p s t))
  minimum-right s t = right (Walk (EdgeOf p) s t) (minimum_of p s t) (minimum-least s t)

  -- least over the edges of the pair
  pub direct-least : (s t : ℕ) → Least (EdgeOf p s t) (direct_of p s t)
  direct-least = least-direct p.sources p.targets p.delays w p.edges

  pub direct-right : (s t : ℕ) → Right (EdgeOf p s t) (reach_of (direct_of p s t))
  direct-right s t = right (EdgeOf p s t) (direct_of p s t) (direct-least s t)

  pub direct-whole : (s t : ℕ) → Whole (direct_of p s t)
  direct-whole = whole-direct p.sources p.targets p.delays w p.edges

  pub minimum-whole : (s t : ℕ) → Whole (minimum_of p s t)
  minimum-whole = whole-via (direct_of p) direct-whole p.members

  pub minimum-below : (s t : ℕ) → minimum_of p s t ≤ direct_of p s t
  minimum-below = via-below (direct_of p) p.members

  -- never above a way round by u
  pub triangle : (s u t : ℕ) → minimum_of p s t ≤ plus (minimum_of p s u) (minimum_of p u t)
  triangle s u t =
      least-round (EdgeOf p) s u t _ _ _ (minimum-whole s t) (minimum-whole s u) (minimum-whole u t)
      (minimum-least s t) (minimum-least s u) (minimum-least u t)

  pub triangle-sum : (s u t : ℕ) → minimum_of p s t ≤ minimum_of p s u + minimum_of p u t
  unfolding plus
  triangle-sum s u t = omega (arith, triangle s u t)

  pub cycles-of-plan : Cycles (EdgeOf p) (minimum_of p)
  cycles-of-plan = cycles p.sources p.targets p.delays p.edges p.members (edges-of p F w)

  -- in a plan without a zero cycle, no delay is a strict order
  pub no-delay-strict : ((i : ℕ) → Quick (EdgeOf p) i i → ⊥) → Strict (NoDelay p)
  no-delay-strict free =
      record {
        irreflexive = irreflexive;
        transitive = transitive;
        asymmetric = λ i j a b. irreflexive i (transitive i j i a b);
      }
    where
      irreflexive : (i : ℕ) → NoDelay p i i → ⊥
      irreflexive i e = free i ((cycles-of-plan.alone i).0 e)

      transitive : (i j k : ℕ) → NoDelay p i j → NoDelay p j k → NoDelay p i k
      transitive i j k a b = omega (arith, triangle-sum i j k, a, b)

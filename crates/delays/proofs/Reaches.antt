-- The same recursion on `Reach` itself, as a reader may want it, and that it is the view of the numbers.
-- Assumes nothing.
use mathlib.Core.Path.{◌≡◌, refl, sym, ap, ap₂, ◌∙◌}
use mathlib.Core.Logic.{⊎_elim}
use Prim.Native.Nat.{ℕ, zero, suc, ◌+◌, ◌≤◌, min}
use native.Mathlib.Omega.{arith}
use borrow.Author.Tests.{lt-ltb, le-ltb, le-leb, lt-leb}
use lib.Dec.{leb, ltb}
use Rattle.basis.specs.Choice.{pick}
use Rattle.delays.specs.declared.Reach.{Reach}
use Rattle.delays.specs.declared.Reach.TheVariants.{At, TooFar, None}
use Rattle.delays.specs.Graph.{far, plus, next, via, reach_of}
use Rattle.delays.proofs.Walks.{le-or-lt, of-near, of-far, of_none, Size, near, just, past, size}

-- the nearer of two
unfoldable pub least_r : Reach → Reach → Reach
least_r None b = b
least_r TooFar None = TooFar
least_r TooFar TooFar = TooFar
least_r TooFar (At y) = At y
least_r (At x) None = At x
least_r (At x) TooFar = At x
least_r (At x) (At y) = pick (leb x y) (At x) (At y)

-- one after the other
unfoldable pub plus_r : Reach → Reach → Reach
plus_r None b = None
plus_r TooFar None = None
plus_r TooFar TooFar = TooFar
plus_r TooFar (At y) = TooFar
plus_r (At x) None = None
plus_r (At x) TooFar = TooFar
plus_r (At x) (At y) = pick (ltb (x + y) far) (At (x + y)) TooFar

unfoldable pub via_r : (ℕ → ℕ → Reach) → ℕ → ℕ → ℕ → Reach
via_r g zero s t = g s t
via_r g (suc k) s t = least_r (via_r g k s t) (plus_r (via_r g k s k) (via_r g k k t))

-- the view of a number by its size
seen : (v : ℕ) → Size v → Reach
seen v (near h) = At v
seen v (just h) = TooFar
seen v (past h) = None

seen-is : (v : ℕ) (z : Size v) → reach_of v ≡ seen v z
unfolding seen
seen-is v (near h) = of-near v h
seen-is v (just h) = of-far v h
seen-is v (past h) = of_none v h

min_of : (a b : ℕ) → a ≤ b → min a b ≡ a
min_of a b h = omega arith

of_min : (a b : ℕ) (x : Size a) (y : Size b) → reach_of (min a b) ≡ least_r (seen a x) (seen b y)
unfolding least_r seen
of_min a b (near h) (near l) =
    ⊎_elim
    (λ q. let e : min a b ≡ a = omega arith in rw e (simp (le-leb a b q) (of-near a h)))
    (λ q. let e : min a b ≡ b = omega arith in rw e (simp (lt-leb a b q) (of-near b l)))
    (le-or-lt a b)
of_min a b (near h) (just l) = let e : min a b ≡ a = omega arith in rw e (of-near a h)
of_min a b (near h) (past l) = let e : min a b ≡ a = omega arith in rw e (of-near a h)
of_min a b (just h) (near l) = let e : min a b ≡ b = omega arith in rw e (of-near b l)
of_min a b (just h) (just l) = of-far (min a b) (omega arith)
of_min a b (just h) (past l) = of-far (min a b) (omega arith)
of_min a b (past h) (near l) = let e : min a b ≡ b = omega arith in rw e (of-near b l)
of_min a b (past h) (just l) = of-far (min a b) (omega arith)
of_min a b (past h) (past l) = of_none (min a b) (omega arith)

of-plus : (a b : ℕ) (x : Size a) (y : Size b) → reach_of (plus a b) ≡ plus_r (seen a x) (seen b y)
unfolding plus_r seen plus
of-plus a b (near h) (near l) =
    ⊎_elim
    (λ q. simp (le-ltb (a + b) far q) (of-far (plus a b) (omega arith)))
    (λ q. let e : plus a b ≡ a + b = omega arith in simp (lt-ltb (a + b) far q) (ap reach_of e ∙ of-near (a + b) q))
    (le-or-lt far (a + b))
of-plus a b (near h) (just l) = of-far (plus a b) (omega arith)
of-plus a b (near h) (past l) = of_none (plus a b) (omega arith)
of-plus a b (just h) (near l) = of-far (plus a b) (omega arith)
of-plus a b (just h) (just l) = of-far (plus a b) (omega arith)
of-plus a b (just h) (past l) = of_none (plus a b) (omega arith)
of-plus a b (past h) (near l) = of_none (plus a b) (omega arith)
of-plus a b (past h) (just l) = of_none (plus a b) (omega arith)
of-plus a b (past h) (past l) = of_none (plus a b) (omega arith)

pub least-of : (a b : ℕ) → reach_of (min a b) ≡ least_r (reach_of a) (reach_of b)
least-of a b = of_min a b (size a) (size b) ∙ sym (ap₂ least_r (seen-is a (size a)) (seen-is b (size b)))

pub plus-of : (a b : ℕ) → reach_of (plus a b) ≡ plus_r (reach_of a) (reach_of b)
plus-of a b = of-plus a b (size a) (size b) ∙ sym (ap₂ plus_r (seen-is a (size a)) (seen-is b (size b)))

-- the recursion on `Reach` is the view of the one on numbers
pub via-of : (g : ℕ → ℕ → ℕ) (k s t : ℕ) → reach_of (via g k s t) ≡ via_r (λ (a b : ℕ). reach_of (g a b)) k s t
unfolding via via_r next
via-of g zero s t = refl
via-of g (suc k) s t =
    least-of (via g k s t) (plus (via g k s k) (via g k k t))
    ∙ ap₂ least_r (via-of g k s t) (plus-of (via g k s k) (via g k k t) ∙ ap₂ plus_r (via-of g k s k) (via-of g k k t))

-- Stretches of the slab: one is lent and put back, every other one stays, and all are cleared at opening.
-- Assumes nothing.
use Prim.Native.Nat.{ℕ, ◌+◌, ◌*◌, ◌-◌, ◌<◌, ◌≤◌}
use native.Mathlib.Omega.{arith}
use mathlib.Core.Path.{◌≡◌, refl, ap, subst, ◌∙◌}
use mathlib.Core.Bool.{Bool, true, false}
use mathlib.Core.List.{List, [], ◌++◌}
use lib.Dec.{ltb}
use lib.ListN.{length, take, drop, replicate, length-take, length-drop, length-replicate, replicate-append-replicate}
use lib.Seq.{take_at, drop_at, drop-drop}
use borrow.Author.Tests.{ltb-true, ltb-false}
use borrow.Rule.Slice.PartMut.{mid_of, put_mid}
use Rattle.basis.specs.Parts.{part, replaced}
use Rattle.basis.proofs.Parts.{part-replaced, part-before, part-after, part_left}
use Rattle.transit.specs.Words.{slots, lay, stretch}

-- ---- what is lent
pub lent : (a k : ℕ) (s : List ℕ) → mid_of a (a + k - a) s ≡ part k a s
unfolding part
lent a k s = let q : a + k - a ≡ k = omega arith in ap (λ (j : ℕ). take j (drop a s)) q

-- and put back
pub put_back : (a k : ℕ) (s ys xs : List ℕ) → ys ≡ xs → length xs ≡ k → put_mid a (a + k - a) s ys ≡ replaced a xs s
unfolding replaced
put_back a k s ys xs e l =
    let q : a + k - a ≡ k = omega arith in
    rw (e, l, q) (ap (λ (w : List ℕ). take a s ++ (xs ++ w)) (drop-drop k a s))

-- ---- what a caller learns: one stretch is what was put in, every other one is as it was
module _ (i : ℕ) (s xs : List ℕ) (whole : length xs ≡ 64) (inside : 64 * i + 64 ≤ length s) where
  pub stretch-same : stretch i (replaced (64 * i) xs s) ≡ xs
  stretch-same = subst (λ (k : ℕ). part k (64 * i) (replaced (64 * i) xs s) ≡ xs) whole (part-replaced (64 * i) xs s (omega arith))

  pub stretch-other : (j : ℕ) → (i ≡ j → ⊥) → stretch j (replaced (64 * i) xs s) ≡ stretch j s
  stretch-other j n = by (ltb i j) refl
    where
      by : (b : Bool) → ltb i j ≡ b → stretch j (replaced (64 * i) xs s) ≡ stretch j s
      by true e = part-after 64 (64 * j) (64 * i) xs s (omega (arith, ltb-true i j e)) (omega arith)
      by false e = part-before 64 (64 * j) (64 * i) xs s (omega (arith, ltb-false i j e)) (omega arith)

pub stretch-length : (i : ℕ) (s : List ℕ) → 64 * i + 64 ≤ length s → length (stretch i s) ≡ 64
unfolding part
stretch-length i s h = simp (length-take, length-drop) (omega arith)

-- ---- cleared
same-part : (b k r x : ℕ) → part k b (replicate (b + (k + r)) x) ≡ replicate k x
unfolding part
same-part b k r x =
    rw (
      ← replicate-append-replicate b (k + r) x,
      ← replicate-append-replicate k r x,
      drop_at (replicate b x) (replicate k x ++ replicate r x) b (length-replicate b x),
    )
    (take_at (replicate k x) (replicate r x) k (length-replicate k x))

-- the stretch of each member holds no tag
pub cleared : (n j : ℕ) (rest : List ℕ) → j < n → stretch j (replicate (64 * n) 0 ++ rest) ≡ lay slots []
unfolding lay
cleared n j rest h =
    let q : 64 * n ≡ 64 * j + (64 + 64 * (n - j - 1)) = omega arith in
    part_left 64 (64 * j) (replicate (64 * n) 0) rest (simp length-replicate (omega arith))
    ∙ ap (λ (m : ℕ). part 64 (64 * j) (replicate m 0)) q ∙ same-part (64 * j) 64 (64 * (n - j - 1)) 0

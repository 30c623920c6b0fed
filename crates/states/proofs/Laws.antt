-- Laws of tags, of the least of many, and of tests.
-- Assumes nothing.
use Prim.Native.Nat.{ℕ, zero, suc, ◌+◌, ◌<◌}
use native.Mathlib.Nat.{not-suc-le-zero}
use native.Mathlib.Omega.{arith}
use mathlib.Core.Path.{◌≡◌, refl, sym, ap₂, subst}
use mathlib.Core.Bool.{Bool, true, false}
use mathlib.Core.Logic.{◌⊎◌, inl, inr, ⊎_elim}
use lib.Dec.{ltb, eqb}
use borrow.Author.Tests.{ltb-true, ltb-false, eqb-true, eqb-false, ne_eqb}
use Rattle.basis.specs.Choice.{not, either}
use Rattle.tags.specs.declared.Tag.{Tag}
use Rattle.tags.specs.declared.Tag.TheVariants.{Never, Finite, Forever}
use Rattle.tags.specs.Tags.{lex_le, tag_le, pred_of, delayed, least_of, greatest_of}
use Rattle.tags.proofs.Order.{clash, Lex, lex, trans, reflexive, total, antisymmetric, forever-greatest, least-left, least-right}
use Rattle.tags.proofs.Laws.{Small, pred_greatest, pred_before}
pub use Rattle.transit.proofs.Lists.{picked}
use Rattle.states.specs.Rules.{least_to}

-- x at or before y; x before y
abbrev pub Le : Tag → Tag → Type 0
Le x y = tag_le x y ≡ true

abbrev pub Lt : Tag → Tag → Type 0
Lt x y = tag_le y x ≡ false

-- ---- tests
pub either_false : (a b : Bool) → either a b ≡ false → (a ≡ false) × (b ≡ false)
either_false true b e = clash (sym e)
either_false false b e = (refl, e)

pub not_false : (b : Bool) → not b ≡ false → b ≡ true
not_false true e = refl
not_false false e = clash (sym e)

pub eq-or-less : (k n : ℕ) → k < suc n → (k ≡ n) ⊎ (k < n)
eq-or-less k n h = go (ltb k n) refl
  where
    go : (b : Bool) → ltb k n ≡ b → (k ≡ n) ⊎ (k < n)
    go true e = inr (ltb-true k n e)
    go false e = inl (omega (arith, ltb-false k n e))

pub which : (i j : ℕ) → (i ≡ j) ⊎ (i ≡ j → ⊥)
which i j = go (eqb i j) refl
  where
    go : (b : Bool) → eqb i j ≡ b → (i ≡ j) ⊎ (i ≡ j → ⊥)
    go true e = inl (eqb-true i j e)
    go false e = inr (eqb-false i j e)

-- x before y, or y at or before x
pub compare : (x y : Tag) → Lt x y ⊎ Le y x
compare x y = go (tag_le y x) refl
  where
    go : (b : Bool) → tag_le y x ≡ b → Lt x y ⊎ Le y x
    go true e = inr e
    go false e = inl e

-- ---- greatest
pub greatest-left : (x y : Tag) → Le x (greatest_of x y)
greatest-left x y = go (tag_le x y) refl
  where
    go : (b : Bool) → tag_le x y ≡ b → Le x (greatest_of x y)
    go true e = rw e e
    go false e = rw e (reflexive x)

pub greatest-right : (x y : Tag) → Le y (greatest_of x y)
greatest-right x y = go (tag_le x y) refl
  where
    go : (b : Bool) → tag_le x y ≡ b → Le y (greatest_of x y)
    go true e = rw e (reflexive y)
    go false e = rw e (total x y e)

pub greatest-under : (x y z : Tag) → Le x z → Le y z → Le (greatest_of x y) z
greatest-under x y z p q = picked (λ (t : Tag). Le t z) (tag_le x y) y x q p

pub greatest-mono : (x y x' y' : Tag) → Le x x' → Le y y' → Le (greatest_of x y) (greatest_of x' y')
greatest-mono x y x' y' p q =
    greatest-under x y (greatest_of x' y') (trans x x' (greatest_of x' y') p (greatest-left x' y')) (trans y y' (greatest_of x' y') q (greatest-right x' y'))

-- ---- predecessor
-- whatever is before y is at or before its predecessor
pub le_pred : (x y : Tag) → Small x → Lt x y → Le x (pred_of y)
le_pred x y h l = pred_greatest x y h (rw l)

pub pred_le : (x : Tag) → Le (pred_of x) x
pred_le Never = refl
pred_le (Finite o m) = total (Finite o m) (pred_of (Finite o m)) (no (tag_le (Finite o m) (pred_of (Finite o m))) (pred_before o m))
  where
    no : (b : Bool) → not b ≡ true → b ≡ false
    no true e = clash e
    no false e = refl
pred_le Forever = refl

pub pred_mono : (x y : Tag) → Small x → Le x y → Le (pred_of x) (pred_of y)
pred_mono x y h l =
    ⊎_elim
    (λ a. trans (pred_of x) x (pred_of y) (pred_le x) (le_pred x y h a))
    (λ b. subst (λ (z : Tag). Le (pred_of x) (pred_of z)) (antisymmetric x y l b) (reflexive (pred_of x)))
    (compare x y)

-- ---- delay
pub delay-small : (x : Tag) (d : ℕ) → Small x → Small (delayed x d)
delay-small Never d h = tt
delay-small (Finite o m) d h = picked Small (eqb d 0) (Finite o m) (Finite (o + d) 0) h (omega arith)
delay-small Forever d h = tt

after-go : (o m p n d : ℕ) → 0 < d → Lex o m p n → Lt (Finite o m) (Finite (p + d) 0)
after-go o m p n d h l = go (lex_le (p + d) 0 o m) refl
  where
    far : Lex o m p n → Lex (p + d) 0 o m → ⊥
    far (inl a) (inl b) = omega arith
    far (inl a) (inr b) = omega arith
    far (inr a) (inl b) = omega arith
    far (inr a) (inr b) = omega arith

    go : (b : Bool) → lex_le (p + d) 0 o m ≡ b → lex_le (p + d) 0 o m ≡ false
    go true e = absurd (far l (lex (p + d) 0 o m e))
    go false e = e

-- a positive delay leads past a finite tag
pub delay-after : (o m : ℕ) (y : Tag) (d : ℕ) → 0 < d → Le (Finite o m) y → Lt (Finite o m) (delayed y d)
delay-after o m Never d h l = clash l
delay-after o m (Finite p n) d h l = rw (ne_eqb d 0 (omega arith)) (after-go o m p n d h (lex o m p n l))
delay-after o m Forever d h l = refl

pub delay-none : (x : Tag) → delayed x 0 ≡ x
delay-none Never = refl
delay-none (Finite o m) = refl
delay-none Forever = refl

-- ---- the least of many
pub least-all {ℓ} : (P : Tag → Type ℓ) (n : ℕ) (f : ℕ → Tag) → P Forever → ((k : ℕ) → k < n → P (f k)) → P (least_to n f)
unfolding least_to
least-all P zero f e h = e
least-all P (suc n) f e h = picked P (tag_le (least_to n f) (f n)) (least_to n f) (f n) (least-all P n f e (λ k l. h k (omega arith))) (h n (omega arith))

pub least-each : (n : ℕ) (f : ℕ → Tag) (k : ℕ) → k < n → Le (least_to n f) (f k)
unfolding least_to
least-each zero f k h = absurd (not-suc-le-zero h)
least-each (suc n) f k h =
    ⊎_elim
    (λ e. rw e (least-right (least_to n f) (f n)))
    (λ l. trans (least_of (least_to n f) (f n)) (least_to n f) (f k) (least-left (least_to n f) (f n)) (least-each n f k l))
    (eq-or-less k n h)

pub least-mono : (n : ℕ) (f g : ℕ → Tag) → ((k : ℕ) → k < n → Le (f k) (g k)) → Le (least_to n f) (least_to n g)
least-mono n f g h =
    least-all (λ (t : Tag). Le (least_to n f) t) n g (forever-greatest (least_to n f)) (λ k l. trans (least_to n f) (f k) (g k) (least-each n f k l) (h k l))

pub least-same : (n : ℕ) (f g : ℕ → Tag) → ((k : ℕ) → k < n → f k ≡ g k) → least_to n f ≡ least_to n g
unfolding least_to
least-same zero f g h = refl
least-same (suc n) f g h = ap₂ least_of (least-same n f g (λ k l. h k (omega arith))) (h n (omega arith))

-- a finite least is met
pub least-met : (n : ℕ) (f : ℕ → Tag) (o m : ℕ) → least_to n f ≡ Finite o m → (k : ℕ) × (k < n) × (f k ≡ Finite o m)
unfolding least_to
least-met zero f o m e = clash (subst (λ (t : Tag). Le Forever t) e (reflexive Forever))
least-met (suc n) f o m e = go (tag_le (least_to n f) (f n)) refl (λ h. least-met n f o m h)
  where
    go : (b : Bool) → tag_le (least_to n f) (f n) ≡ b → (least_to n f ≡ Finite o m → (k : ℕ) × (k < n) × (f k ≡ Finite o m)) → (k : ℕ) × (k < suc n) × (f k ≡ Finite o m)
    go true q ih = let r = ih (rw q at e) in (r.0, omega (arith, r.1), r.2)
    go false q ih = (n, omega arith, rw q at e)

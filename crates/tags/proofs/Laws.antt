-- Delay, predecessor and subtract against the order.
-- Assumes nothing.
use Prim.Native.Nat.{ℕ, ◌+◌, ◌-◌, ◌<◌, ◌≤◌}
use mathlib.Core.Path.{◌≡◌, refl, sym}
use mathlib.Core.Bool.{Bool, true, false}
use mathlib.Core.Logic.{◌⊎◌, inl, inr}
use mathlib.Core.List.{List}
use mir.Val.{Val}
use denote.Laws.{Is}
use denote.Enum.Declared.{row}
use native.Mathlib.Omega.{arith}
use lib.Dec.{ltb, leb, eqb}
use borrow.Author.Tests.{ltb-true, ltb-false, leb-true, leb-false, eqb-false, lt-leb, lt-ltb, le-ltb}
use Rattle.tags.specs.declared.Tag.{Tag}
use Rattle.tags.specs.declared.Tag.TheVariants.{Never, Finite, Forever}
use Rattle.tags.specs.Tags.{top, lex_le, tag_le, tag_before, delayed, pred_of, less_of, told_by, words_of}
use Rattle.std.specs.Prelude.{Some}
use Rattle.tags.specs.contracts.Tag.{the_type}
use Rattle.tags.proofs.Order.{clash, Lex, lex, lex-of}

-- a microstep is at most M
abbrev pub Small : Tag → Type 0
Small Never = Unit {0}
Small (Finite o m) = m ≤ top
Small Forever = Unit {0}

-- so is that of every tag that the code holds
pub small_of : (x : Tag) (vs : List Val) → Is (row the_type) x vs → Small x
small_of Never vs p = tt
small_of (Finite o m) vs p = omega arith
small_of Forever vs p = tt

-- ---- two tests that hold together are the same
pub same_tests : (a b : Bool) → (a ≡ true → b ≡ true) → (b ≡ true → a ≡ true) → a ≡ b
same_tests true b f g = sym (f refl)
same_tests false true f g = clash (g refl)
same_tests false false f g = refl

-- ---- Delay is monotone.
later : (o m p n d : ℕ) → Lex o m p n → (b : Bool) → eqb d 0 ≡ b → tag_le (delayed (Finite o m) d) (delayed (Finite p n) d) ≡ true
later o m p n d h true e = rw e (lex-of o m p n h)
later o m p n d h false e = rw e (lex-of (o + d) 0 (p + d) 0 (shifted h))
  where
    shifted : Lex o m p n → Lex (o + d) 0 (p + d) 0
    shifted (inl a) = inl (omega arith)
    shifted (inr a) = inr (omega arith)

pub delay_monotone : (x y : Tag) (d : ℕ) → tag_le x y ≡ true → tag_le (delayed x d) (delayed y d) ≡ true
delay_monotone Never y d h = refl
delay_monotone (Finite o m) Never d h = clash h
delay_monotone (Finite o m) (Finite p n) d h = later o m p n d (lex o m p n h) (eqb d 0) refl
delay_monotone (Finite o m) Forever d h = by (eqb d 0) refl
  where
    by : (b : Bool) → eqb d 0 ≡ b → tag_le (delayed (Finite o m) d) Forever ≡ true
    by true e = rw e
    by false e = rw e
delay_monotone Forever Never d h = clash h
delay_monotone Forever (Finite p n) d h = clash h
delay_monotone Forever Forever d h = refl

-- ---- Whatever is before y is at or before y's predecessor, and that is before y if y is finite.
strict-by : (o m p n : ℕ) (s t : Bool) → ltb p o ≡ s → ltb o p ≡ t → tag_before (Finite o m) (Finite p n) ≡ true → (o < p) ⊎ ((o ≡ p) × (m < n))
strict-by o m p n true t es et h = clash (rw es at h)
strict-by o m p n false true es et h = inl (ltb-true o p et)
strict-by o m p n false false es et h = inr (omega (arith, ltb-false p o es, ltb-false o p et), last (leb n m) refl)
  where
    last : (u : Bool) → leb n m ≡ u → m < n
    last true e = clash (rw (es, et, e) at h)
    last false e = leb-false n m e

strict : (o m p n : ℕ) → tag_before (Finite o m) (Finite p n) ≡ true → (o < p) ⊎ ((o ≡ p) × (m < n))
strict o m p n h = strict-by o m p n (ltb p o) (ltb o p) refl refl h

module _ (o m p n : ℕ) (small : m ≤ top) where
  within_by : (s t : Bool) → ltb 0 n ≡ s → ltb 0 p ≡ t → ((o < p) ⊎ ((o ≡ p) × (m < n))) → tag_le (Finite o m) (pred_of (Finite p n)) ≡ true
  within_by true t es et (inl a) = rw es (lex-of o m p (n - 1) (inl a))
  within_by true t es et (inr a) = rw es (lex-of o m p (n - 1) (inr (omega arith)))
  within_by false true es et (inl a) = rw (es, et) (lex-of o m (p - 1) top (last (ltb o (p - 1)) refl))
    where
      last : (u : Bool) → ltb o (p - 1) ≡ u → Lex o m (p - 1) top
      last true e = inl (ltb-true o (p - 1) e)
      last false e = inr (omega (arith, ltb-false o (p - 1) e))
  within_by false true es et (inr a) = absurd (omega (arith, ltb-false 0 n es))
  within_by false false es et (inl a) = absurd (omega (arith, ltb-false 0 p et))
  within_by false false es et (inr a) = absurd (omega (arith, ltb-false 0 n es))

pub pred_greatest : (x y : Tag) → Small x → tag_before x y ≡ true → tag_le x (pred_of y) ≡ true
pred_greatest Never y sm h = refl
pred_greatest (Finite o m) Never sm h = clash h
pred_greatest (Finite o m) (Finite p n) sm h = within_by o m p n sm (ltb 0 n) (ltb 0 p) refl refl (strict o m p n h)
pred_greatest (Finite o m) Forever sm h = refl
pred_greatest Forever Never sm h = clash h
pred_greatest Forever (Finite p n) sm h = clash h
pred_greatest Forever Forever sm h = clash h

before-by : (o m : ℕ) (s t : Bool) → ltb 0 m ≡ s → ltb 0 o ≡ t → tag_before (pred_of (Finite o m)) (Finite o m) ≡ true
before-by o m true t es et = rw (es, le-ltb o o (omega arith), lt-leb m (m - 1) (omega (arith, ltb-true 0 m es)))
before-by o m false true es et = rw (es, et, le-ltb o (o - 1) (omega arith), lt-ltb (o - 1) o (omega (arith, ltb-true 0 o et)))
before-by o m false false es et = rw (es, et)

pub pred_before : (o m : ℕ) → tag_before (pred_of (Finite o m)) (Finite o m) ≡ true
pred_before o m = before-by o m (ltb 0 m) (ltb 0 o) refl refl

-- ---- x delayed by d is at or before y exactly if x is at or before y less d: sums exact, ends on either side.
module _ (o m p n d : ℕ) (small : m ≤ top) where
  forth : 0 < d → d ≤ p → Lex (o + d) 0 p n → Lex o m (p - d) top
  forth hd hp (inl a) = inl (omega arith)
  forth hd hp (inr a) = inr (omega arith)

  back : 0 < d → d ≤ p → Lex o m (p - d) top → Lex (o + d) 0 p n
  back hd hp (inl a) = inl (omega arith)
  back hd hp (inr a) = inr (omega arith)

  short : 0 < d → p < d → Lex (o + d) 0 p n → false ≡ true
  short hd hp (inl a) = absurd (omega arith)
  short hd hp (inr a) = absurd (omega arith)

  finite-by : (s t : Bool) → eqb d 0 ≡ s → leb d p ≡ t → tag_le (delayed (Finite o m) d) (Finite p n) ≡ tag_le (Finite o m) (less_of (Finite p n) d)
  finite-by true t es et = rw es
  finite-by false true es et =
      let hp : d ≤ p = leb-true d p et in
      let hd : 0 < d = omega (arith, eqb-false d 0 es) in
      rw (es, et)
      (same_tests (lex_le (o + d) 0 p n) (lex_le o m (p - d) top)
      (λ h. lex-of o m (p - d) top (forth hd hp (lex (o + d) 0 p n h)))
      (λ h. lex-of (o + d) 0 p n (back hd hp (lex o m (p - d) top h))))
  finite-by false false es et =
      let hp : p < d = leb-false d p et in
      let hd : 0 < d = omega arith in
      rw (es, et) (same_tests (lex_le (o + d) 0 p n) false (λ h. short hd hp (lex (o + d) 0 p n h)) (λ h. clash h))

ends_by : (o m d : ℕ) (s : Bool) → eqb d 0 ≡ s → (tag_le (delayed (Finite o m) d) Never ≡ false) × (tag_le (delayed (Finite o m) d) Forever ≡ true)
ends_by o m d true e = (rw e, rw e)
ends_by o m d false e = (rw e, rw e)

beyond-by : (p n d : ℕ) (s t : Bool) → eqb d 0 ≡ s → leb d p ≡ t → tag_le Forever (less_of (Finite p n) d) ≡ false
beyond-by p n d true t es et = rw es
beyond-by p n d false true es et = rw (es, et)
beyond-by p n d false false es et = rw (es, et)

pub adjoint : (x y : Tag) (d : ℕ) → Small x → tag_le (delayed x d) y ≡ tag_le x (less_of y d)
adjoint Never y d sm = refl
adjoint (Finite o m) Never d sm = (ends_by o m d (eqb d 0) refl).0
adjoint (Finite o m) (Finite p n) d sm = finite-by o m p n d sm (eqb d 0) (leb d p) refl refl
adjoint (Finite o m) Forever d sm = (ends_by o m d (eqb d 0) refl).1
adjoint Forever Never d sm = refl
adjoint Forever (Finite p n) d sm = sym (beyond-by p n d (eqb d 0) (leb d p) refl refl)
adjoint Forever Forever d sm = refl

-- ---- A tag's words say that tag.
pub told-words : (x : Tag) → told_by (words_of x).class (words_of x).offset (words_of x).microstep ≡ Some x
told-words Never = refl
told-words (Finite o m) = refl
told-words Forever = refl

-- The order of tags: total, transitive, antisymmetric, with NEVER least and FOREVER greatest.
-- Assumes nothing.
use Prim.Native.Nat.{ℕ, ◌<◌, ◌≤◌}
use mathlib.Core.Path.{◌≡◌, refl, sym, ◌∙◌}
use mathlib.Core.Bool.{Bool, true, false}
use mathlib.Core.Logic.{◌⊎◌, inl, inr}
use native.Mathlib.Omega.{arith}
use lib.Dec.{ltb}
use borrow.Author.Tests.{ltb-true, ltb-false, leb-true, leb-false, le-leb, lt-ltb, le-ltb}
use Rattle.tags.specs.declared.Tag.{Tag}
use Rattle.tags.specs.declared.Tag.TheVariants.{Never, Finite, Forever}
use Rattle.tags.specs.Tags.{lex_le, tag_le, same_tag, least_of}

pub clash : {A : Type 0} → false ≡ true → A
clash {A} e = let z : ◌≡◌ {A = ℕ} 0 1 = cc in absurd (omega arith)

-- ---- finite tags, as numbers
abbrev pub Lex : ℕ → ℕ → ℕ → ℕ → Type 0
Lex o m p n = (o < p) ⊎ ((o ≡ p) × (m ≤ n))

cases : (o m p n : ℕ) (s t : Bool) → ltb o p ≡ s → ltb p o ≡ t → lex_le o m p n ≡ true → Lex o m p n
cases o m p n true t es et h = inl (ltb-true o p es)
cases o m p n false true es et h = clash (rw (es, et) at h)
cases o m p n false false es et h = inr (omega (arith, ltb-false o p es, ltb-false p o et), leb-true m n (rw (es, et) at h))

pub lex : (o m p n : ℕ) → lex_le o m p n ≡ true → Lex o m p n
lex o m p n h = cases o m p n (ltb o p) (ltb p o) refl refl h

pub lex-of : (o m p n : ℕ) → Lex o m p n → lex_le o m p n ≡ true
lex-of o m p n (inl h) = rw (lt-ltb o p h)
lex-of o m p n (inr h) = rw (le-ltb o p (omega arith), le-ltb p o (omega arith)) (le-leb m n h.1)

join : (o m p n q k : ℕ) → Lex o m p n → Lex p n q k → Lex o m q k
join o m p n q k (inl a) (inl b) = inl (omega arith)
join o m p n q k (inl a) (inr b) = inl (omega arith)
join o m p n q k (inr a) (inl b) = inl (omega arith)
join o m p n q k (inr a) (inr b) = inr (omega arith)

-- ---- the order
pub trans : (x y z : Tag) → tag_le x y ≡ true → tag_le y z ≡ true → tag_le x z ≡ true
trans Never y z p q = refl
trans (Finite o m) Never z p q = clash p
trans (Finite o m) (Finite p' n) Never p q = clash q
trans (Finite o m) (Finite p' n) (Finite q' k) p q = lex-of o m q' k (join o m p' n q' k (lex o m p' n p) (lex p' n q' k q))
trans (Finite o m) (Finite p' n) Forever p q = refl
trans (Finite o m) Forever Never p q = clash q
trans (Finite o m) Forever (Finite q' k) p q = clash q
trans (Finite o m) Forever Forever p q = refl
trans Forever Never z p q = clash p
trans Forever (Finite p' n) z p q = clash p
trans Forever Forever z p q = q

pub reflexive : (x : Tag) → tag_le x x ≡ true
reflexive Never = refl
reflexive (Finite o m) = lex-of o m o m (inr (omega arith))
reflexive Forever = refl

other : (o m p n : ℕ) (s t : Bool) → ltb o p ≡ s → ltb p o ≡ t → lex_le o m p n ≡ false → lex_le p n o m ≡ true
other o m p n true t es et h = clash (sym h ∙ rw es)
other o m p n false true es et h = rw et
other o m p n false false es et h = rw (et, es) (le-leb n m (omega (arith, leb-false m n (rw (es, et) at h))))

pub total : (x y : Tag) → tag_le x y ≡ false → tag_le y x ≡ true
total Never y e = clash (sym e)
total (Finite o m) Never e = refl
total (Finite o m) (Finite p n) e = other o m p n (ltb o p) (ltb p o) refl refl e
total (Finite o m) Forever e = clash (sym e)
total Forever Never e = refl
total Forever (Finite p n) e = refl
total Forever Forever e = clash (sym e)

level : (o m p n : ℕ) → Lex o m p n → Lex p n o m → Finite o m ≡ Finite p n
level o m p n (inl a) (inl b) = absurd (omega arith)
level o m p n (inl a) (inr b) = absurd (omega arith)
level o m p n (inr a) (inl b) = absurd (omega arith)
level o m p n (inr a) (inr b) = let h : m ≡ n = omega arith in rw (a.0, h)

pub antisymmetric : (x y : Tag) → tag_le x y ≡ true → tag_le y x ≡ true → x ≡ y
antisymmetric Never Never p q = refl
antisymmetric Never (Finite o m) p q = clash q
antisymmetric Never Forever p q = clash q
antisymmetric (Finite o m) Never p q = clash p
antisymmetric (Finite o m) (Finite p' n) p q = level o m p' n (lex o m p' n p) (lex p' n o m q)
antisymmetric (Finite o m) Forever p q = clash q
antisymmetric Forever Never p q = clash p
antisymmetric Forever (Finite o m) p q = clash p
antisymmetric Forever Forever p q = refl

-- NEVER is least, FOREVER greatest.
pub never-least : (x : Tag) → tag_le Never x ≡ true
never-least x = refl

pub forever-greatest : (x : Tag) → tag_le x Forever ≡ true
forever-greatest Never = refl
forever-greatest (Finite o m) = refl
forever-greatest Forever = refl

-- ---- two tags are the same exactly if `same_tag` says so
same_by : (x y : Tag) (b : Bool) → tag_le x y ≡ b → same_tag x y ≡ true → x ≡ y
same_by x y true e h = antisymmetric x y e (rw e at h)
same_by x y false e h = clash (rw e at h)

pub same : (x y : Tag) → same_tag x y ≡ true → x ≡ y
same x y h = same_by x y (tag_le x y) refl h

pub same-itself : (x : Tag) → same_tag x x ≡ true
same-itself x = rw reflexive

-- ---- least and greatest
left_by : (x y : Tag) (b : Bool) → tag_le x y ≡ b → tag_le (least_of x y) x ≡ true
left_by x y true e = rw e (reflexive x)
left_by x y false e = rw e (total x y e)

pub least-left : (x y : Tag) → tag_le (least_of x y) x ≡ true
least-left x y = left_by x y (tag_le x y) refl

right_by : (x y : Tag) (b : Bool) → tag_le x y ≡ b → tag_le (least_of x y) y ≡ true
right_by x y true e = rw e e
right_by x y false e = rw e (reflexive y)

pub least-right : (x y : Tag) → tag_le (least_of x y) y ≡ true
least-right x y = right_by x y (tag_le x y) refl

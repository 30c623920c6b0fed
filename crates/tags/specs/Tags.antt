-- Tags: what each function of a tag answers, by cases.
-- Assumes nothing.
use Rattle.std.specs.Prelude.{ℕ, ◌+◌, ◌-◌, Bool, true, false, ltb, leb, eqb, Option, Some, None}
use Rattle.basis.specs.Choice.{pick, not, both}
use Rattle.tags.specs.declared.Tag.{Tag}
use Rattle.tags.specs.declared.Tag.TheVariants.{Never, Finite, Forever}
use Rattle.tags.specs.declared.Words.{Words}

-- M is the largest microstep, 2^64-1.
abbrev pub top : ℕ
top = 18446744073709551615

-- NEVER, finite (offset, microstep), FOREVER, in that order; finite tags by offset, then microstep.
abbrev pub lex_le : ℕ → ℕ → ℕ → ℕ → Bool
lex_le o m p n = pick (ltb o p) true (pick (ltb p o) false (leb m n))

-- at or before
abbrev pub tag_le : Tag → Tag → Bool
tag_le Never y = true
tag_le (Finite o m) Never = false
tag_le (Finite o m) (Finite p n) = lex_le o m p n
tag_le (Finite o m) Forever = true
tag_le Forever Never = false
tag_le Forever (Finite p n) = false
tag_le Forever Forever = true

abbrev pub tag_before : Tag → Tag → Bool
tag_before x y = not (tag_le y x)

abbrev pub same_tag : Tag → Tag → Bool
same_tag x y = both (tag_le x y) (tag_le y x)

abbrev pub least_of : Tag → Tag → Tag
least_of x y = pick (tag_le x y) x y

abbrev pub greatest_of : Tag → Tag → Tag
greatest_of x y = pick (tag_le x y) y x

-- Delay by 0: unchanged. By d>0: finite becomes (offset+d, 0); the ends stay. The sum is exact.
abbrev pub delayed : Tag → ℕ → Tag
delayed Never d = Never
delayed (Finite o m) d = pick (eqb d 0) (Finite o m) (Finite (o + d) 0)
delayed Forever d = Forever

-- the same where an offset is at most 2^64-1: a sum past it is too far, and none
abbrev pub delay_of : Tag → ℕ → Option Tag
delay_of Never d = Some Never
delay_of (Finite o m) d = pick (eqb d 0) (Some (Finite o m)) (pick (leb (o + d) top) (Some (Finite (o + d) 0)) None)
delay_of Forever d = Some Forever

-- Predecessor: (o,m) with m>0 gives (o,m-1); (o,0) with o>0 gives (o-1,M); ZERO gives NEVER; the ends stay.
abbrev pub pred_of : Tag → Tag
pred_of Never = Never
pred_of (Finite o m) = pick (ltb 0 m) (Finite o (m - 1)) (pick (ltb 0 o) (Finite (o - 1) top) Never)
pred_of Forever = Forever

-- Subtract: 0 leaves the tag; d>0 gives (o-d,M), or NEVER if d>o; the ends stay.
abbrev pub less_of : Tag → ℕ → Tag
less_of Never d = Never
less_of (Finite o m) d = pick (eqb d 0) (Finite o m) (pick (leb d o) (Finite (o - d) top) Never)
less_of Forever d = Forever

-- Class 0 NEVER, 1 finite, 2 FOREVER; an offset and a microstep of 0 outside class 1.
abbrev pub words_of : Tag → Words
words_of Never = record { class = 0; offset = 0; microstep = 0 }
words_of (Finite o m) = record { class = 1; offset = o; microstep = m }
words_of Forever = record { class = 2; offset = 0; microstep = 0 }

-- the tag that three words say; any other class, or words that are not 0 where they must be, say none
abbrev pub told_by : ℕ → ℕ → ℕ → Option Tag
told_by c o m =
    pick (eqb c 1) (Some (Finite o m))
    (pick (eqb o 0)
    (pick (eqb m 0)
    (pick (eqb c 0) (Some Never) (pick (eqb c 2) (Some Forever) None)) None) None)

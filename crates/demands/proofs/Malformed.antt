-- 16 and 17 by reading a request are 16 and 17 as 01 says them of its seven words.
-- Assumes nothing.
use Prim.Native.Nat.{ℕ, zero, suc, ◌<◌}
use native.Mathlib.Omega.{arith}
use borrow.Author.Tests.{ne_eqb}
use mathlib.Core.Path.{◌≡◌, refl, sym, ap, ◌∙◌}
use mathlib.Core.Bool.{Bool, true, false}
use mathlib.Core.List.{List, [], ◌∷◌}
use lib.Dec.{ltb, eqb}
use Rattle.std.proofs.Common.{None, Some}
use lib.ListN.{length, get_or}
use Rattle.basis.specs.Choice.{pick, not, both, either}
use Rattle.tags.specs.declared.Tag.{Tag}
use Rattle.tags.proofs.Order.{clash}
use Rattle.transit.specs.Tags.{limit}
use Rattle.states.specs.Steps.{any}
use Rattle.states.specs.declared.Request.{Request}
use Rattle.states.specs.declared.Request.TheVariants.{Publish, Complete, Payload}
use Rattle.requests.specs.Asking.{Spoken, spoken_by, publish_of, complete_of, payload_of, numberless_of, form_of, far_tag, far_of, refused, judged_by, asked_by}
use Rattle.demands.specs.Entries.{among, malformed, beyond}

-- ---- the tag's words
-- any other class
abbrev classless : ℕ → Bool
classless c = not (either (eqb c 0) (either (eqb c 1) (either (eqb c 2) (either (eqb c 3) false))))

-- offset or microstep not 0 outside class 1
abbrev stray : ℕ → ℕ → ℕ → Bool
stray c o m = both (not (eqb c 1)) (not (both (eqb o 0) (eqb m 0)))

data Heard (c o m : ℕ) : Spoken → Type 0 where
  garbled : either (classless c) (stray c o m) ≡ true → Heard c o m None
  nothing : classless c ≡ false → stray c o m ≡ false → eqb c 3 ≡ true → eqb c 1 ≡ false → Heard c o m (Some None)
  tagged : {t : Tag} → classless c ≡ false → stray c o m ≡ false → eqb c 3 ≡ false → far_tag t ≡ both (eqb c 1) (ltb limit o) → Heard c o m (Some (Some t))

other : (k j : ℕ) → j < k → eqb k j ≡ false
other k j l = ne_eqb k j (λ (e : k ≡ j). omega arith)

heard_as : (c o m : ℕ) → Heard c o m (spoken_by c o m)
unfolding spoken_by
heard_as zero zero zero = tagged refl refl refl refl
heard_as zero zero (suc m) = rw (other (suc m) 0 (omega arith)) (garbled (rw (other (suc m) 0 (omega arith)) refl))
heard_as zero (suc o) m = rw (other (suc o) 0 (omega arith)) (garbled (rw (other (suc o) 0 (omega arith)) refl))
heard_as (suc zero) o m = tagged refl refl refl refl
heard_as (suc (suc zero)) zero zero = tagged refl refl refl refl
heard_as (suc (suc zero)) zero (suc m) = rw (other (suc m) 0 (omega arith)) (garbled (rw (other (suc m) 0 (omega arith)) refl))
heard_as (suc (suc zero)) (suc o) m = rw (other (suc o) 0 (omega arith)) (garbled (rw (other (suc o) 0 (omega arith)) refl))
heard_as (suc (suc (suc zero))) zero zero = nothing refl refl refl refl
heard_as (suc (suc (suc zero))) zero (suc m) = rw (other (suc m) 0 (omega arith)) (garbled (rw (other (suc m) 0 (omega arith)) refl))
heard_as (suc (suc (suc zero))) (suc o) m = rw (other (suc o) 0 (omega arith)) (garbled (rw (other (suc o) 0 (omega arith)) refl))
heard_as (suc (suc (suc (suc c)))) o m =
    let k : ℕ = suc (suc (suc (suc c))) in
    past k (other k 0 (omega arith)) (other k 1 (omega arith)) (other k 2 (omega arith)) (other k 3 (omega arith)) (eqb o 0) (eqb m 0) refl refl
  where
    past : (c : ℕ) → eqb c 0 ≡ false → eqb c 1 ≡ false → eqb c 2 ≡ false → eqb c 3 ≡ false → (a b : Bool) → eqb o 0 ≡ a → eqb m 0 ≡ b → Heard c o m (spoken_by c o m)
    past c h0 h1 h2 h3 true true e f = rw (h0, h1, h2, h3, e, f) (garbled (rw (h0, h1, h2, h3) refl))
    past c h0 h1 h2 h3 true false e f = rw (h0, h1, h2, h3, e, f) (garbled (rw (h0, h1, h2, h3) refl))
    past c h0 h1 h2 h3 false b e f = rw (h0, h1, h2, h3, e) (garbled (rw (h0, h1, h2, h3) refl))

-- ---- the other words
abbrev unsaid : ℕ → ℕ → ℕ → Bool → Bool
unsaid k n x none = any (
    both (among k (3 ∷ 6 ∷ [])) (not (eqb n 0))
    ∷ both (not (eqb k 4)) (not (eqb x 0))
    ∷ both (among k (1 ∷ 5 ∷ 6 ∷ 7 ∷ [])) (not none)
    ∷ both (among k (3 ∷ 4 ∷ [])) none ∷ [])

abbrev kindless : ℕ → Bool
kindless k = not (among k (1 ∷ 2 ∷ 3 ∷ 4 ∷ 5 ∷ 6 ∷ 7 ∷ []))

garbled-is : (i k n x : ℕ) → (judged_by i (form_of k n None x)).number ≡ 16
unfolding judged_by form_of publish_of complete_of payload_of numberless_of
garbled-is i zero n x = refl
garbled-is i (suc zero) n x = refl
garbled-is i (suc (suc zero)) n zero = refl
garbled-is i (suc (suc zero)) n (suc x) = rw (other (suc x) 0 (omega arith)) refl
garbled-is i (suc (suc (suc zero))) zero zero = refl
garbled-is i (suc (suc (suc zero))) zero (suc x) = rw (other (suc x) 0 (omega arith)) refl
garbled-is i (suc (suc (suc zero))) (suc n) x = rw (other (suc n) 0 (omega arith)) refl
garbled-is i (suc (suc (suc (suc zero)))) n x = refl
garbled-is i (suc (suc (suc (suc (suc zero))))) n x = refl
garbled-is i (suc (suc (suc (suc (suc (suc zero)))))) zero x = refl
garbled-is i (suc (suc (suc (suc (suc (suc zero)))))) (suc n) x = rw (other (suc n) 0 (omega arith)) refl
garbled-is i (suc (suc (suc (suc (suc (suc (suc zero))))))) n x = refl
garbled-is i (suc (suc (suc (suc (suc (suc (suc (suc k)))))))) n x =
    let h : ℕ = suc (suc (suc (suc (suc (suc (suc (suc k))))))) in
    rw (other h 1 (omega arith), other h 2 (omega arith), other h 3 (omega arith), other h 4 (omega arith), other h 5 (omega arith), other h 6 (omega arith), other h 7 (omega arith)) refl

nothing_is : (i k n x : ℕ) → (judged_by i (form_of k n (Some None) x)).number ≡ pick (either (kindless k) (unsaid k n x true)) 16 0
unfolding judged_by form_of publish_of complete_of payload_of numberless_of far_of any among
nothing_is i zero n x = refl
nothing_is i (suc zero) n zero = refl
nothing_is i (suc zero) n (suc x) = rw (other (suc x) 0 (omega arith)) refl
nothing_is i (suc (suc zero)) n zero = refl
nothing_is i (suc (suc zero)) n (suc x) = rw (other (suc x) 0 (omega arith)) refl
nothing_is i (suc (suc (suc zero))) zero zero = refl
nothing_is i (suc (suc (suc zero))) zero (suc x) = rw (other (suc x) 0 (omega arith)) refl
nothing_is i (suc (suc (suc zero))) (suc n) x = rw (other (suc n) 0 (omega arith)) refl
nothing_is i (suc (suc (suc (suc zero)))) n x = refl
nothing_is i (suc (suc (suc (suc (suc zero))))) n zero = refl
nothing_is i (suc (suc (suc (suc (suc zero))))) n (suc x) = rw (other (suc x) 0 (omega arith)) refl
nothing_is i (suc (suc (suc (suc (suc (suc zero)))))) zero zero = refl
nothing_is i (suc (suc (suc (suc (suc (suc zero)))))) zero (suc x) = rw (other (suc x) 0 (omega arith)) refl
nothing_is i (suc (suc (suc (suc (suc (suc zero)))))) (suc n) x = rw (other (suc n) 0 (omega arith)) refl
nothing_is i (suc (suc (suc (suc (suc (suc (suc zero))))))) n zero = refl
nothing_is i (suc (suc (suc (suc (suc (suc (suc zero))))))) n (suc x) = rw (other (suc x) 0 (omega arith)) refl
nothing_is i (suc (suc (suc (suc (suc (suc (suc (suc k)))))))) n x =
    let h : ℕ = suc (suc (suc (suc (suc (suc (suc (suc k))))))) in
    rw (other h 1 (omega arith), other h 2 (omega arith), other h 3 (omega arith), other h 4 (omega arith), other h 5 (omega arith), other h 6 (omega arith), other h 7 (omega arith)) refl

told : (i : ℕ) (q : Request) → (judged_by i (Some q)).number ≡ pick (far_of q) 17 0
unfolding judged_by
told i q = go (far_of q)
  where
    go : (b : Bool) → (pick b (refused 17) (record { number = 0; member = i; request = q })).number ≡ pick b 17 0
    go true = refl
    go false = refl

tagged_is : (i k n x : ℕ) (t : Tag) → (judged_by i (form_of k n (Some (Some t)) x)).number ≡ pick (either (kindless k) (unsaid k n x false)) 16 (pick (far_tag t) 17 0)
unfolding judged_by form_of publish_of complete_of payload_of numberless_of far_of any among
tagged_is i zero n x t = refl
tagged_is i (suc zero) n zero t = refl
tagged_is i (suc zero) n (suc x) t = rw (other (suc x) 0 (omega arith)) refl
tagged_is i (suc (suc zero)) n zero t = told i (Publish n (Some t))
tagged_is i (suc (suc zero)) n (suc x) t = rw (other (suc x) 0 (omega arith)) refl
tagged_is i (suc (suc (suc zero))) zero zero t = told i (Complete t)
tagged_is i (suc (suc (suc zero))) zero (suc x) t = rw (other (suc x) 0 (omega arith)) refl
tagged_is i (suc (suc (suc zero))) (suc n) x t = rw (other (suc n) 0 (omega arith)) refl
tagged_is i (suc (suc (suc (suc zero)))) n x t = told i (Payload n t x)
tagged_is i (suc (suc (suc (suc (suc zero))))) n zero t = refl
tagged_is i (suc (suc (suc (suc (suc zero))))) n (suc x) t = rw (other (suc x) 0 (omega arith)) refl
tagged_is i (suc (suc (suc (suc (suc (suc zero)))))) zero zero t = refl
tagged_is i (suc (suc (suc (suc (suc (suc zero)))))) zero (suc x) t = rw (other (suc x) 0 (omega arith)) refl
tagged_is i (suc (suc (suc (suc (suc (suc zero)))))) (suc n) x t = rw (other (suc n) 0 (omega arith)) refl
tagged_is i (suc (suc (suc (suc (suc (suc (suc zero))))))) n zero t = refl
tagged_is i (suc (suc (suc (suc (suc (suc (suc zero))))))) n (suc x) t = rw (other (suc x) 0 (omega arith)) refl
tagged_is i (suc (suc (suc (suc (suc (suc (suc (suc k)))))))) n x t =
    let h : ℕ = suc (suc (suc (suc (suc (suc (suc (suc k))))))) in
    rw (other h 1 (omega arith), other h 2 (omega arith), other h 3 (omega arith), other h 4 (omega arith), other h 5 (omega arith), other h 6 (omega arith), other h 7 (omega arith)) refl

-- ---- all seven
-- no tests before the k-th, then the rest
later_true : (a b c : Bool) → either a b ≡ true → either a (either b c) ≡ true
later_true true b c e = refl
later_true false true c e = refl
later_true false false c e = clash e

number_is : (i k n c o m x : ℕ) → (judged_by i (form_of k n (spoken_by c o m) x)).number ≡
    pick (either (kindless k) (either (classless c) (either (stray c o m) (unsaid k n x (eqb c 3))))) 16 (pick (both (eqb c 1) (ltb limit o)) 17 0)
number_is i k n c o m x = go (spoken_by c o m) (heard_as c o m)
  where
    go : (s : Spoken) → Heard c o m s → (judged_by i (form_of k n s x)).number ≡
        pick (either (kindless k) (either (classless c) (either (stray c o m) (unsaid k n x (eqb c 3))))) 16 (pick (both (eqb c 1) (ltb limit o)) 17 0)
    go _ (garbled e) = garbled-is i k n x ∙ sym (ap (λ (b : Bool). pick b 16 (pick (both (eqb c 1) (ltb limit o)) 17 0)) (any-kind (kindless k)))
      where
        any-kind : (a : Bool) → either a (either (classless c) (either (stray c o m) (unsaid k n x (eqb c 3)))) ≡ true
        any-kind true = refl
        any-kind false = later_true (classless c) (stray c o m) (unsaid k n x (eqb c 3)) e
    go _ (nothing e f g h) = rw (e, f, g, h) (nothing_is i k n x)
    go _ (tagged {t = t} e f g h) = rw (e, f, g, ← h) (tagged_is i k n x t)

-- The number that reading a request gives: 16 if it is malformed, else 17 if its tag is finite with an offset above L, else 0.
pub asked-number : (l : List ℕ) → (asked_by l).number ≡ pick (malformed l) 16 (pick (beyond l) 17 0)
unfolding asked_by malformed beyond any among
asked-number l = go (eqb (length l) 7)
  where
    go : (b : Bool) → (pick b (judged_by (get_or l 0 0) (form_of (get_or l 1 0) (get_or l 2 0) (spoken_by (get_or l 3 0) (get_or l 4 0) (get_or l 5 0)) (get_or l 6 0))) (refused 16)).number ≡
        pick (either (not b) (either (kindless (get_or l 1 0)) (either (classless (get_or l 3 0)) (either (stray (get_or l 3 0) (get_or l 4 0) (get_or l 5 0)) (unsaid (get_or l 1 0) (get_or l 2 0) (get_or l 6 0) (eqb (get_or l 3 0) 3)))))) 16 (pick (both (eqb (get_or l 3 0) 1) (ltb limit (get_or l 4 0))) 17 0)
    go true = number_is (get_or l 0 0) (get_or l 1 0) (get_or l 2 0) (get_or l 3 0) (get_or l 4 0) (get_or l 5 0) (get_or l 6 0)
    go false = refl

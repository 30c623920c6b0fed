-- A request that its words say, refused with neither 16 nor 17, has tags that fit.
-- Assumes nothing.
use Prim.Native.Nat.{ℕ, ◌≤◌}
use native.Mathlib.Omega.{arith}
use mathlib.Core.Path.{◌≡◌, refl}
use mathlib.Core.Bool.{Bool, true, false}
use mathlib.Core.List.{List}
use lib.Dec.{eqb}
use lib.ListN.{length, get_or}
use borrow.Author.Tests.{ltb-false}
use Rattle.basis.specs.Choice.{pick}
use Rattle.tags.specs.declared.Tag.{Tag}
use Rattle.tags.specs.declared.Tag.TheVariants.{Never, Finite, Forever}
use Rattle.std.specs.Prelude.{Option, Some, None}
use Rattle.tags.specs.Tags.{top, told_by}
use Rattle.tags.proofs.Laws.{Small}
use Rattle.transit.specs.Tags.{limit}
use Rattle.states.specs.declared.Request.{Request}
use Rattle.states.specs.declared.Request.TheVariants.{Hello, Publish, Complete, Payload, ConfirmIdle, Stop, Abort}
use Rattle.states.specs.Formed.{Fits, FitsRequest}
use Rattle.states.proofs.Laws.{picked}
use Rattle.requests.specs.Asking.{Spoken, Form, heard, spoken_by, bare_of, next_of, publish_of, tag_of, complete_of, payload_of, numberless_of, form_of, far_tag, far_of, refused, judged_by, asked_by}

-- ---- a microstep is one of the words
abbrev SmallOption : Option Tag → Type 0
SmallOption None = Unit {0}
SmallOption (Some t) = Small t

abbrev SmallSpoken : Spoken → Type 0
SmallSpoken None = Unit {0}
SmallSpoken (Some e) = SmallOption e

abbrev SmallRequest : Request → Type 0
SmallRequest (Hello d) = Unit {0}
SmallRequest (Publish r e) = SmallOption e
SmallRequest (Complete t) = Small t
SmallRequest (Payload k t h) = Small t
SmallRequest (ConfirmIdle r) = Unit {0}
SmallRequest Stop = Unit {0}
SmallRequest (Abort c) = Unit {0}

abbrev SmallForm : Form → Type 0
SmallForm None = Unit {0}
SmallForm (Some q) = SmallRequest q

told-small : (c o m : ℕ) → m ≤ top → SmallOption (told_by c o m)
told-small c o m h =
    picked SmallOption (eqb c 1) _ _ h
    (picked SmallOption (eqb o 0) _ _ (picked SmallOption (eqb m 0) _ _ (picked SmallOption (eqb c 0) _ _ tt (picked SmallOption (eqb c 2) _ _ tt tt)) tt) tt)

heard-small : (t : Option Tag) → SmallOption t → SmallSpoken (heard t)
heard-small None h = tt
heard-small (Some t) h = h

spoken_small : (c o m : ℕ) → m ≤ top → SmallSpoken (spoken_by c o m)
unfolding spoken_by
spoken_small c o m h =
    picked SmallSpoken (eqb c 3) _ _ (picked SmallSpoken (eqb o 0) _ _ (picked SmallSpoken (eqb m 0) _ _ tt tt) tt) (heard-small (told_by c o m) (told-small c o m h))

bare-small : (s : Spoken) (x : ℕ) (q : Request) → SmallRequest q → SmallForm (bare_of s x q)
bare-small None x q h = tt
bare-small (Some None) x q h = picked SmallForm (eqb x 0) _ _ h tt
bare-small (Some (Some t)) x q h = tt

next_small : (r : ℕ) (s : Spoken) → SmallSpoken s → SmallForm (next_of r s)
next_small r None h = tt
next_small r (Some e) h = h

tag_small : (s : Spoken) (q : Tag → Request) → ((t : Tag) → Small t → SmallRequest (q t)) → SmallSpoken s → SmallForm (tag_of s q)
tag_small None q f h = tt
tag_small (Some None) q f h = tt
tag_small (Some (Some t)) q f h = f t h

form_small : (k n : ℕ) (s : Spoken) (x : ℕ) → SmallSpoken s → SmallForm (form_of k n s x)
unfolding form_of publish_of complete_of payload_of numberless_of
form_small k n s x h =
    picked SmallForm (eqb k 1) _ _ (bare-small s x (Hello n) tt)
    (picked SmallForm (eqb k 2) _ _ (picked SmallForm (eqb x 0) _ _ (next_small n s h) tt)
    (picked SmallForm (eqb k 3) _ _ (picked SmallForm (eqb n 0) _ _ (picked SmallForm (eqb x 0) _ _ (tag_small s (λ t. Complete t) (λ t z. z) h) tt) tt)
    (picked SmallForm (eqb k 4) _ _ (tag_small s (λ t. Payload n t x) (λ t z. z) h)
    (picked SmallForm (eqb k 5) _ _ (bare-small s x (ConfirmIdle n) tt)
    (picked SmallForm (eqb k 6) _ _ (picked SmallForm (eqb n 0) _ _ (bare-small s x Stop tt) tt)
    (picked SmallForm (eqb k 7) _ _ (bare-small s x (Abort n) tt) tt))))))

-- ---- an offset past L is 17
tag_fits : (t : Tag) → far_tag t ≡ false → Small t → Fits t
tag_fits Never e h = tt
tag_fits (Finite o m) e h = (ltb-false limit o e, h)
tag_fits Forever e h = tt

request-fits : (q : Request) → far_of q ≡ false → SmallRequest q → FitsRequest q
unfolding far_of
request-fits (Hello d) e h = tt
request-fits (Publish r None) e h = tt
request-fits (Publish r (Some t)) e h = tag_fits t e h
request-fits (Complete t) e h = tag_fits t e h
request-fits (Payload k t x) e h = tag_fits t e h
request-fits (ConfirmIdle r) e h = tt
request-fits Stop e h = tt
request-fits (Abort c) e h = tt

judged-fits : (i : ℕ) (f : Form) → SmallForm f → (judged_by i f).number ≡ 0 → FitsRequest (judged_by i f).request
unfolding judged_by
judged-fits i None h e = absurd (omega arith)
judged-fits i (Some q) h e = go (far_of q) refl
  where
    go : (b : Bool) → far_of q ≡ b → FitsRequest (pick (far_of q) (refused 17) (record { number = 0; member = i; request = q })).request
    go true z = absurd (omega (arith, rw z at e))
    go false z = rw z (request-fits q z h)

pub asked-fits : (l : List ℕ) → ((k : ℕ) → get_or l k 0 ≤ top) → (asked_by l).number ≡ 0 → FitsRequest (asked_by l).request
unfolding asked_by
asked-fits l w e = go (eqb (length l) 7) refl
  where
    f : Form
    f = form_of (get_or l 1 0) (get_or l 2 0) (spoken_by (get_or l 3 0) (get_or l 4 0) (get_or l 5 0)) (get_or l 6 0)

    go : (b : Bool) → eqb (length l) 7 ≡ b → FitsRequest (pick (eqb (length l) 7) (judged_by (get_or l 0 0) (form_of (get_or l 1 0) (get_or l 2 0) (spoken_by (get_or l 3 0) (get_or l 4 0) (get_or l 5 0)) (get_or l 6 0))) (refused 16)).request
    go true z = rw z (judged-fits (get_or l 0 0) f (form_small (get_or l 1 0) (get_or l 2 0) (spoken_by (get_or l 3 0) (get_or l 4 0) (get_or l 5 0)) (get_or l 6 0) (spoken_small (get_or l 3 0) (get_or l 4 0) (get_or l 5 0) (w 5))) (rw z at e))
    go false z = absurd (omega (arith, rw z at e))

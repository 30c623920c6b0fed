-- The rules that go by the next event, put as the code goes: first by the publication, then by the event.
-- Assumes nothing.
use mathlib.Core.Path.{◌≡◌, refl, sym, ap, ◌∙◌}
use mathlib.Core.Bool.{Bool, true, false}
use Rattle.std.specs.Prelude.{Option, Some, None}
use Prim.Native.Nat.{ℕ}
use lib.Dec.{eqb}
use Rattle.basis.specs.Choice.{pick, not, both, either}
use Rattle.tags.specs.declared.Tag.{Tag}
use Rattle.tags.specs.Tags.{tag_le, tag_before, same_tag, delayed}
use Rattle.tags.proofs.Order.{clash}
use Rattle.states.specs.declared.Publication.{Publication}
use Rattle.states.specs.Sessions.{Member, or_never}
use Rattle.states.specs.Rules.{is_set, mark_is, due, useful}
use Rattle.states.specs.Steps.{any, finite, is_event, older, otherwise, confirmed, bad_publication, bad_payload, is_absent, or_zero, of_limit, on_instant}
use Rattle.records.specs.Records.{bad_event, event_due, lets_pass, off_route, off_grant}

-- a publication of this revision and event
abbrev said : ℕ → Option Tag → Option Publication
said r e = Some (record { revision = r; next = e })

no_more : (b : Bool) → either b false ≡ b
no_more true = refl
no_more false = refl

either_true : (b : Bool) → either b true ≡ true
either_true true = refl
either_true false = refl

pub confirmed-event : (r : ℕ) (e : Option Tag) (q : Option ℕ) → is_event e ≡ true → confirmed (said r e) q ≡ false
confirmed-event r None q h = clash h
confirmed-event r (Some t) q h = refl

pub confirmed-quiet : (r : ℕ) (e : Option Tag) (q : Option ℕ) → is_event e ≡ false → confirmed (said r e) q ≡ mark_is q r
confirmed-quiet r None q h = refl
confirmed-quiet r (Some t) q h = clash (sym h)

pub due-event : (r : ℕ) (e : Option Tag) (m : Member) (h : Tag) → due (said r e) m h ≡ event_due m r e h
unfolding due
due-event r None m h = refl
due-event r (Some t) m h = refl

pub useful-event : (r : ℕ) (e : Option Tag) (old new : Tag) → useful (said r e) old new ≡ either (tag_before new old) (lets_pass e old new)
unfolding useful
useful-event r None old new = sym (no_more (tag_before new old))
useful-event r (Some t) old new = refl

-- 24, by the publication first
pub publication-tests : (m : Member) (r : ℕ) (e : Option Tag) → bad_publication m r e ≡ either (older m.publication r) (either (otherwise m.publication r e) (bad_event e m.completed m.idle))
unfolding bad_publication any
publication-tests m r None = refl
publication-tests m r (Some t) = go (not (finite t)) (older m.publication r) (otherwise m.publication r (Some t)) (tag_le t (or_never m.completed)) (is_set m.idle)
  where
    go : (a b c d e : Bool) → either a (either b (either c (either d (either e false)))) ≡ either b (either c (either a (either d e)))
    go true b c d e = sym (ap (either b) (either_true c) ∙ either_true b)
    go false b c d e = ap (λ (x : Bool). either b (either c (either d x))) (no_more e)

-- 28, in five
pub payload-tests : (m : Member) (d : ℕ) (t : Tag) → bad_payload m d t ≡ either (not (finite t)) (either (is_set m.idle) (either (tag_before t (delayed (or_zero m.completed) d)) (either (off_route m.completed d t) (off_grant m d t))))
unfolding bad_payload any
payload-tests m d t =
    ap (λ (x : Bool). either (not (finite t)) (either (is_set m.idle) (either (tag_before t (delayed (or_zero m.completed) d)) x)))
    (go (eqb d 0) (of_limit (same_tag t) m.completed) (not (on_instant t)) (not (tag_before (or_never m.completed) (or_never m.granted))) (is_absent m.granted) (tag_before (delayed (or_never m.granted) d) t))
  where
    go : (z c i a b e : Bool) → either (both z c) (either (both (not z) i) (either a (either b (either e false)))) ≡ either (pick z c i) (either a (either b e))
    go true c i a b e = ap (λ (x : Bool). either c (either a (either b x))) (no_more e)
    go false c i a b e = ap (λ (x : Bool). either i (either a (either b x))) (no_more e)

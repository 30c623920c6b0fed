-- What seven words ask: a member and a request, or a refusal.
-- Assumes nothing.
use Rattle.std.specs.Prelude.{ℕ, Bool, false, List, ltb, eqb, length, get_or, Option, Some, None, Result, Ok, Err}
use Rattle.basis.specs.Choice.{pick}
use Rattle.tags.specs.declared.Tag.{Tag}
use Rattle.tags.specs.declared.Tag.TheVariants.{Never, Finite, Forever}
use Rattle.tags.specs.Tags.{told_by}
use Rattle.transit.specs.Tags.{limit}
use Rattle.states.specs.declared.Request.{Request}
use Rattle.states.specs.declared.Request.TheVariants.{Hello, Publish, Complete, Payload, ConfirmIdle, Stop, Abort}
use Rattle.requests.specs.declared.Asked.{Asked}
use Rattle.requests.specs.declared.Fault.{Fault}
use Rattle.requests.specs.declared.Fault.TheVariants.{Malformed, Far}

-- What three words say of a tag: None nothing, Some None that there is none (class 3), else a tag.
abbrev pub Spoken : Type 0
Spoken = Option (Option Tag)

-- What five words ask: a request, or nothing.
abbrev pub Form : Type 0
Form = Option Request

-- Class 0 NEVER, 1 finite, 2 FOREVER; "any other class, offset or microstep not 0 outside class 1" is malformed.
abbrev pub heard : Option Tag → Spoken
heard (Some t) = Some (Some t)
heard None = None

-- class 3 none
unfoldable pub spoken_by : ℕ → ℕ → ℕ → Spoken
spoken_by c o m = pick (eqb c 3) (pick (eqb o 0) (pick (eqb m 0) (Some None) None) None) (heard (told_by c o m))

-- Unused words are 0, unused tags class 3.
abbrev pub bare_of : Spoken → ℕ → Request → Form
bare_of None x q = None
bare_of (Some None) x q = pick (eqb x 0) (Some q) None
bare_of (Some (Some t)) x q = None

-- next event or none
abbrev pub next_of : ℕ → Spoken → Form
next_of r None = None
next_of r (Some e) = Some (Publish r e)

-- 2 Publish (revision, next event or none)
unfoldable pub publish_of : ℕ → Spoken → ℕ → Form
publish_of r s x = pick (eqb x 0) (next_of r s) None

-- class 3 in kinds 3 and 4 is malformed
abbrev pub tag_of : Spoken → (Tag → Request) → Form
tag_of None q = None
tag_of (Some None) q = None
tag_of (Some (Some t)) q = Some (q t)

-- 3 Complete (tag)
unfoldable pub complete_of : ℕ → Spoken → ℕ → Form
complete_of n s x = pick (eqb n 0) (pick (eqb x 0) (tag_of s (λ t. Complete t)) None) None

-- 4 Payload (route, tag, extra: payload handle)
unfoldable pub payload_of : ℕ → Spoken → ℕ → Form
payload_of k s h = tag_of s (λ t. Payload k t h)

-- 6 Stop
unfoldable pub numberless_of : ℕ → Spoken → ℕ → Form
numberless_of n s x = pick (eqb n 0) (bare_of s x Stop) None

-- Requests: 1 Hello (number: identity), 2 Publish, 3 Complete, 4 Payload, 5 ConfirmIdle (revision), 6 Stop, 7 Abort (code);
-- "any other kind" is malformed.
unfoldable pub form_of : ℕ → ℕ → Spoken → ℕ → Form
form_of k n s x =
    pick (eqb k 1) (bare_of s x (Hello n))
    (pick (eqb k 2) (publish_of n s x)
    (pick (eqb k 3) (complete_of n s x)
    (pick (eqb k 4) (payload_of n s x)
    (pick (eqb k 5) (bare_of s x (ConfirmIdle n))
    (pick (eqb k 6) (numberless_of n s x)
    (pick (eqb k 7) (bare_of s x (Abort n)) None))))))

-- 17: finite request tag offset above L
abbrev pub far_tag : Tag → Bool
far_tag Never = false
far_tag (Finite o m) = ltb limit o
far_tag Forever = false

abbrev pub far_next : Option Tag → Bool
far_next None = false
far_next (Some t) = far_tag t

unfoldable pub far_of : Request → Bool
far_of (Hello d) = false
far_of (Publish r e) = far_next e
far_of (Complete t) = far_tag t
far_of (Payload k t h) = far_tag t
far_of (ConfirmIdle r) = false
far_of Stop = false
far_of (Abort c) = false

-- the refusal's number (0: none), the member word and the request; refused: member 0 and Stop
pub record Heard : Type 0 where
  pub number : ℕ
  pub member : ℕ
  pub request : Request

abbrev pub refused : ℕ → Heard
refused n = record { number = n; member = 0; request = Stop }

-- 16, then 17
unfoldable pub judged_by : ℕ → Form → Heard
judged_by i None = refused 16
judged_by i (Some q) = pick (far_of q) (refused 17) (record { number = 0; member = i; request = q })

-- Seven u64 words: member, kind, number, tag class, offset, microstep, extra.
unfoldable pub asked_by : List ℕ → Heard
asked_by l =
    pick (eqb (length l) 7)
    (judged_by (get_or l 0 0) (form_of (get_or l 1 0) (get_or l 2 0) (spoken_by (get_or l 3 0) (get_or l 4 0) (get_or l 5 0)) (get_or l 6 0)))
    (refused 16)

-- ---- as the code answers it
abbrev pub fault_no : Fault → ℕ
fault_no Malformed = 16
fault_no Far = 17

abbrev pub heard_as : Result Asked Fault → Heard
heard_as (Ok a) = record { number = 0; member = a.member; request = a.request }
heard_as (Err f) = refused (fault_no f)

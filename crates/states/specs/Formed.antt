-- Well formed (refusal 14), and what a request's words and refusal 17 leave of its tags.
-- Assumes nothing.
use Rattle.std.specs.Prelude.{ℕ, ◌<◌, ◌≤◌, ◌≡◌, true, List, [], ◌∷◌, length, Option, Some, None}
use Rattle.tags.specs.declared.Tag.{Tag}
use Rattle.tags.specs.declared.Tag.TheVariants.{Never, Finite, Forever}
use Rattle.tags.specs.Tags.{tag_le, top}
use Rattle.plans.specs.Nets.{Net}
use Rattle.transit.specs.Tags.{limit, Rising}
use Rattle.states.specs.declared.Publication.{Publication}
use Rattle.states.specs.declared.Request.{Request}
use Rattle.states.specs.declared.Request.TheVariants.{Hello, Publish, Complete, Payload, ConfirmIdle, Stop, Abort}
use Rattle.states.specs.Sessions.{Member, Session, or_never, view}
use Rattle.states.specs.Rules.{is_set}

-- ---- requests
-- 17: finite request tag offset above L; a microstep is a 64-bit word
abbrev pub Fits : Tag → Type 0
Fits Never = Unit {0}
Fits (Finite o m) = (o ≤ limit) × (m ≤ top)
Fits Forever = Unit {0}

abbrev pub FitsNext : Option Tag → Type 0
FitsNext None = Unit {0}
FitsNext (Some t) = Fits t

abbrev pub FitsRequest : Request → Type 0
FitsRequest (Hello d) = Unit {0}
FitsRequest (Publish r e) = FitsNext e
FitsRequest (Complete t) = Fits t
FitsRequest (Payload k t h) = Fits t
FitsRequest (ConfirmIdle r) = Unit {0}
FitsRequest Stop = Unit {0}
FitsRequest (Abort c) = Unit {0}

-- ---- states
-- finite with offset at most L
abbrev pub Word : Tag → Type 0
Word Never = ⊥
Word (Finite o m) = (o ≤ limit) × (m ≤ top)
Word Forever = ⊥

abbrev pub WordLimit : Option Tag → Type 0
WordLimit None = Unit {0}
WordLimit (Some t) = Word t

abbrev pub WordNext : Option Publication → Type 0
WordNext None = Unit {0}
WordNext (Some p) = WordLimit p.next

abbrev pub Words : List Tag → Type 0
Words [] = Unit {0}
Words (t ∷ ts) = Word t × Words ts

-- per member, tags no more than capacity, strictly increasing, offsets at most L, above completed; publication and completion
-- finite with offset at most L; completed not above granted (absent: NEVER); stopped only if idle
pub record WellFormed (capacity : ℕ) (m : Member) : Type 0 where
  pub room : length m.transit ≤ capacity
  pub words : Words m.transit
  pub rising : Rising (or_never m.completed) m.transit
  pub event : WordNext m.publication
  pub completion : WordLimit m.completed
  pub below : tag_le (or_never m.completed) (or_never m.granted) ≡ true
  pub rest : m.stopped ≡ true → is_set m.idle ≡ true

-- as many records as the plan has members, each well formed
pub record Sound (p : Net) (s : Session) : Type 0 where
  pub count : length s.members ≡ p.count
  pub each : (i : ℕ) → i < p.count → WellFormed (p.capacity i) (view s i)

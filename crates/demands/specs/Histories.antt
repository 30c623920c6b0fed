-- Histories of a session, and demand 3 as statements.
-- Assumes nothing.
use Rattle.std.specs.Prelude.{ℕ, ◌<◌, ◌≡◌, true, false, ◌⊎◌, Option, None, Some}
use Rattle.tags.specs.declared.Tag.{Tag}
use Rattle.tags.specs.declared.Tag.TheVariants.{Finite}
use Rattle.tags.specs.Tags.{tag_le, tag_before}
use Rattle.plans.specs.Nets.{Net}
use Rattle.transit.specs.Tags.{first_of}
use Rattle.states.specs.declared.Publication.{Publication}
use Rattle.states.specs.declared.Request.{Request}
use Rattle.states.specs.Sessions.{Member, Session, fresh}
use Rattle.states.specs.Rules.{is_set, active, least_to, earliest, awaited, horizon}
use Rattle.states.specs.Steps.{step, abandon}
use Rattle.states.specs.Formed.{FitsRequest}

-- A session: one opening and its calls, on one plan, state and slab as last left. A call is a request, the owner's abort, or one
-- refused with 11 to 17, which changes nothing.
pub data Reached (p : Net) : Session → Type 0 where
  opened : (identity : ℕ) → Reached p (fresh p.count identity)
  asked : {s : Session} → Reached p s → (i : ℕ) (q : Request) → FitsRequest q → Reached p (step p s i q).session
  aborted : {s : Session} → Reached p s → (code : ℕ) → Reached p (abandon p s code).session
  refused : {s : Session} → Reached p s → Reached p s

-- an event that is published, with its revision
abbrev pub event_at : ℕ → Tag → Option Publication
event_at r e = Some (record { revision = r; next = Some e })

-- ---- Demand 3, first half
-- Whoever has an event published, is neither idle nor stopped, and whose horizon reaches the event, holds a grant for that
-- revision up to that horizon.
abbrev pub Answered : Net → (ℕ → Member) → ℕ → Type 0
Answered p v j = (r : ℕ) (e : Tag) → (v j).publication ≡ event_at r e → active (v j) ≡ true → tag_le e (horizon p v j) ≡ true
    → ((v j).revision ≡ Some r) × ((v j).granted ≡ Some (horizon p v j))

-- ---- Demand 3, second half
-- holds a grant that covers its event
abbrev pub Granted : Member → Type 0
Granted m = (r : ℕ) × (e : Tag) × (t : Tag) × (m.publication ≡ event_at r e) × (m.revision ≡ Some r) × (m.granted ≡ Some t) × (tag_le e t ≡ true)

-- has in transit a tag before its event (no event counts as last)
abbrev pub Awaits : Member → Type 0
Awaits m = tag_before (first_of m.transit) (awaited m.publication) ≡ true

abbrev pub HasPublished : Member → Type 0
HasPublished m = m.publication ≡ None → ⊥

-- If all members have published, none is idle and the smallest earliest tag is finite, some member at that tag holds a grant
-- covering its event, or has in transit a tag before its event.
abbrev pub Moves : Net → (ℕ → Member) → Type 0
Moves p v = ((k : ℕ) → k < p.count → HasPublished (v k)) → ((k : ℕ) → k < p.count → is_set (v k).idle ≡ false)
    → (o m : ℕ) → least_to p.count (λ k. earliest (v k)) ≡ Finite o m
    → (i : ℕ) × (i < p.count) × (earliest (v i) ≡ Finite o m) × (Granted (v i) ⊎ Awaits (v i))

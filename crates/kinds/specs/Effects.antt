-- What each kind does to a record, and to the state and the slab.
-- Assumes nothing.
use Rattle.std.specs.Prelude.{ℕ, ◌*◌, ◌<◌, ◌≡◌, false, List, [], ◌∷◌, length, Option, Some, None}
use Rattle.basis.specs.Parts.{replaced}
use Rattle.tags.specs.declared.Tag.{Tag}
use Rattle.transit.specs.Tags.{insert, after, full, IsFinite}
use Rattle.transit.specs.Words.{slots, lay, stretch, Laid}
use Rattle.states.specs.declared.Request.{Request}
use Rattle.states.specs.declared.Request.TheVariants.{Hello, Publish, Complete, Payload, ConfirmIdle, Stop, Abort}
use Rattle.states.specs.declared.MemberState.{MemberState}
use Rattle.states.specs.declared.State.{State}
use Rattle.states.specs.declared.Delivery.{Delivery}
use Rattle.states.specs.declared.Delivery.TheVariants.{Carried, Stopped}
use Rattle.states.specs.Records.{record_at, with_record}
use Rattle.rows.specs.Rows.{edges, edge_target}
use Rattle.records.specs.Records.{joined_record, published_record, completed_record, carrying_record, asked_record, stopped_record}

-- the record that a request leaves; Complete and Payload go by the slab
abbrev pub changed_record : MemberState → Request → MemberState
changed_record m (Hello d) = joined_record m
changed_record m (Publish r e) = published_record m r e
changed_record m (Complete t) = m
changed_record m (Payload k t h) = m
changed_record m (ConfirmIdle r) = asked_record m r
changed_record m Stop = stopped_record m
changed_record m (Abort c) = m

-- Complete: sets completed and removes tags up to it
pub record Completes (s : State) (w : List ℕ) (i : ℕ) (t : Tag) (r : State) (out : List ℕ) : Type 0 where
  pub done : (lo : Tag) (ts : List Tag) → Laid lo (record_at s i).held (stretch i w) ts
      → (r ≡ with_record s i (completed_record (record_at s i) t (length (after t ts)))) × (out ≡ replaced (64 * i) (lay slots (after t ts)) w)

-- Payload: a finite tag that has room is put among those of its destination
pub record Carries (s : State) (w : List ℕ) (j room : ℕ) (t : Tag) (r : State) (out : List ℕ) : Type 0 where
  pub done : (lo : Tag) (ts : List Tag) → Laid lo (record_at s j).held (stretch j w) ts → IsFinite t → full room t ts ≡ false
      → (r ≡ with_record s j (carrying_record (record_at s j) (length (insert t ts)))) × (out ≡ replaced (64 * j) (lay slots (insert t ts)) w)

-- ---- what is sent first
abbrev pub firstly : Option Delivery → List Delivery
firstly None = []
firstly (Some d) = d ∷ []

-- a payload's route is one of the plan's
abbrev pub Routed : List ℕ → Request → Type 0
Routed b (Hello d) = Unit {0}
Routed b (Publish r e) = Unit {0}
Routed b (Complete t) = Unit {0}
Routed b (Payload k t h) = k < edges b
Routed b (ConfirmIdle r) = Unit {0}
Routed b Stop = Unit {0}
Routed b (Abort c) = Unit {0}

-- a payload is delivered first; Stop is answered with Stopped
abbrev pub sent_first : List ℕ → ℕ → Request → List Delivery
sent_first b i (Hello d) = []
sent_first b i (Publish r e) = []
sent_first b i (Complete t) = []
sent_first b i (Payload k t h) = Carried (edge_target b k) k t h ∷ []
sent_first b i (ConfirmIdle r) = []
sent_first b i Stop = Stopped i ∷ []
sent_first b i (Abort c) = []

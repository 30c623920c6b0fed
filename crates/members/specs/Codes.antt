-- The session that a state and its slab stand for, and the state and the words that a session is held as.
-- Assumes nothing.
use Rattle.std.specs.Prelude.{ℕ, zero, suc, ◌*◌, ◌-◌, ◌<◌, List, [], ◌∷◌, ◌++◌, map, length, get_or, drop, replicate}
use Rattle.tags.specs.declared.Tag.{Tag}
use Rattle.transit.specs.Words.{lay, slots, stretch, tags_of, Laid}
use Rattle.states.specs.declared.MemberState.{MemberState}
use Rattle.states.specs.declared.State.{State}
use Rattle.states.specs.Records.{blank_record}
use Rattle.states.specs.Sessions.{Member, Session, or_never}

-- ---- read: a record and the 64 words of its stretch
abbrev pub member_of : MemberState → List ℕ → Member
member_of r ws = record { joined = r.joined; publication = r.publication; revision = r.revision; granted = r.granted; bound = r.bound; completed = r.completed; asked = r.asked; idle = r.idle; stopped = r.stopped; transit = tags_of r.held ws }

-- the stretch holds the record's tags, all of them above `lo`
pub record Holds (lo : Tag) (r : MemberState) (ws : List ℕ) : Type 0 where
  pub laid : Laid lo r.held ws (tags_of r.held ws)

-- the stretches of the first n records hold their tags, all of them above completed
pub record AllHold (s : State) (slab : List ℕ) (n : ℕ) : Type 0 where
  pub at : (i : ℕ) → i < n → Holds (or_never (get_or s.members i blank_record).completed) (get_or s.members i blank_record) (stretch i slab)

-- k members from position i on
unfoldable pub members_from : List MemberState → List ℕ → ℕ → ℕ → List Member
members_from rs slab i zero = []
members_from rs slab i (suc k) = member_of (get_or rs i blank_record) (stretch i slab) ∷ members_from rs slab (suc i) k

unfoldable pub session_of : State → List ℕ → Session
session_of s slab = record { members = members_from s.members slab 0 s.count; identity = s.identity; cause = s.cause; code = s.code }

-- ---- written: a record with the number of its tags, and the tags laid out in its stretch
abbrev pub record_of : Member → MemberState
record_of m = record { joined = m.joined; publication = m.publication; revision = m.revision; granted = m.granted; bound = m.bound; completed = m.completed; held = length m.transit; asked = m.asked; idle = m.idle; stopped = m.stopped }

unfoldable pub lays_of : List Member → List ℕ
lays_of [] = []
lays_of (m ∷ ms) = lay slots m.transit ++ lays_of ms

-- as many records as members, the rest blank
unfoldable pub state_of : Session → State
state_of s = record { members = map record_of s.members ++ replicate (32 - length s.members) blank_record; count = length s.members; identity = s.identity; cause = s.cause; code = s.code }

-- each member's stretch; the slab's tail stays
unfoldable pub slab_of : Session → List ℕ → List ℕ
slab_of s old = lays_of s.members ++ drop (64 * length s.members) old

-- A session: its members in order, each with its tags in transit, the identity that they have to name, and what ended it.
-- Assumes nothing.
use Rattle.std.specs.Prelude.{ℕ, Bool, true, false, List, [], get_or, set, replicate, Option, Some, None}
use Rattle.tags.specs.declared.Tag.{Tag}
use Rattle.tags.specs.declared.Tag.TheVariants.{Never}
use Rattle.states.specs.declared.Publication.{Publication}

-- a member's record, with its tags in the place of their number
pub record Member : Type 0 where
  pub joined : Bool
  pub publication : Option Publication
  pub revision : Option ℕ
  pub granted : Option Tag
  pub bound : Option Tag
  pub completed : Option Tag
  pub asked : Option ℕ
  pub idle : Option ℕ
  pub stopped : Bool
  pub transit : List Tag

pub record Session : Type 0 where
  pub members : List Member
  pub identity : ℕ
  pub cause : ℕ
  pub code : ℕ

-- Blank is what opening gives a member.
abbrev pub blank : Member
blank = record { joined = false; publication = None; revision = None; granted = None; bound = None; completed = None; asked = None; idle = None; stopped = false; transit = [] }

-- Opening gives a fresh state.
abbrev pub fresh : ℕ → ℕ → Session
fresh n identity = record { members = replicate n blank; identity = identity; cause = 0; code = 0 }

-- absent: NEVER
abbrev pub or_never : Option Tag → Tag
or_never None = Never
or_never (Some t) = t

-- ---- one member read, one member replaced
abbrev pub view : Session → ℕ → Member
view s i = get_or s.members i blank

abbrev pub put : Session → ℕ → Member → Session
put s i m = record { members = set s.members i m; identity = s.identity; cause = s.cause; code = s.code }

abbrev pub with_cause : Session → ℕ → ℕ → Session
with_cause s cause code = record { members = s.members; identity = s.identity; cause = cause; code = code }

-- ---- one field replaced
abbrev pub with_joined : Member → Member
with_joined m = record { joined = true; publication = m.publication; revision = m.revision; granted = m.granted; bound = m.bound; completed = m.completed; asked = m.asked; idle = m.idle; stopped = m.stopped; transit = m.transit }

abbrev pub with_publication : Member → Option Publication → Option ℕ → Member
with_publication m p q = record { joined = m.joined; publication = p; revision = m.revision; granted = m.granted; bound = m.bound; completed = m.completed; asked = q; idle = m.idle; stopped = m.stopped; transit = m.transit }

abbrev pub with_grant : Member → ℕ → Tag → Member
with_grant m r t = record { joined = m.joined; publication = m.publication; revision = Some r; granted = Some t; bound = m.bound; completed = m.completed; asked = m.asked; idle = m.idle; stopped = m.stopped; transit = m.transit }

abbrev pub with_bound : Member → Tag → Member
with_bound m t = record { joined = m.joined; publication = m.publication; revision = m.revision; granted = m.granted; bound = Some t; completed = m.completed; asked = m.asked; idle = m.idle; stopped = m.stopped; transit = m.transit }

abbrev pub with_completed : Member → Tag → List Tag → Member
with_completed m t ts = record { joined = m.joined; publication = m.publication; revision = m.revision; granted = m.granted; bound = m.bound; completed = Some t; asked = m.asked; idle = m.idle; stopped = m.stopped; transit = ts }

abbrev pub with_transit : Member → List Tag → Member
with_transit m ts = record { joined = m.joined; publication = m.publication; revision = m.revision; granted = m.granted; bound = m.bound; completed = m.completed; asked = m.asked; idle = m.idle; stopped = m.stopped; transit = ts }

abbrev pub with_asked : Member → ℕ → Member
with_asked m r = record { joined = m.joined; publication = m.publication; revision = m.revision; granted = m.granted; bound = m.bound; completed = m.completed; asked = Some r; idle = m.idle; stopped = m.stopped; transit = m.transit }

abbrev pub with_idle : Member → ℕ → Member
with_idle m r = record { joined = m.joined; publication = m.publication; revision = m.revision; granted = m.granted; bound = m.bound; completed = m.completed; asked = m.asked; idle = Some r; stopped = m.stopped; transit = m.transit }

abbrev pub with_stopped : Member → Member
with_stopped m = record { joined = m.joined; publication = m.publication; revision = m.revision; granted = m.granted; bound = m.bound; completed = m.completed; asked = m.asked; idle = m.idle; stopped = true; transit = m.transit }

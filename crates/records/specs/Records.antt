-- One member's record: the member that it says when no tag is held, and each change of it.
-- Assumes nothing.
use Rattle.std.specs.Prelude.{ℕ, Bool, true, false, [], eqb, Option, Some, None}
use Rattle.basis.specs.Choice.{pick, not, both, either}
use Rattle.tags.specs.declared.Tag.{Tag}
use Rattle.states.specs.declared.MemberState.{MemberState}
use Rattle.tags.specs.Tags.{tag_le, tag_before, same_tag, delayed}
use Rattle.states.specs.Sessions.{Member, or_never}
use Rattle.states.specs.Rules.{is_set, mark_is, active, revision_of, useful}
use Rattle.states.specs.Steps.{same_publication, finite, is_absent, of_limit, on_instant}

-- the member of a record, with no tags: what the rules that read no tags read
abbrev pub plainly : MemberState → Member
plainly m = record { joined = m.joined; publication = m.publication; revision = m.revision; granted = m.granted; bound = m.bound; completed = m.completed; asked = m.asked; idle = m.idle; stopped = m.stopped; transit = [] }

abbrev pub joined_record : MemberState → MemberState
joined_record m = record m { joined = true }

abbrev pub stated_record : MemberState → ℕ → Option Tag → Option ℕ → MemberState
stated_record m r e q = record m { publication = Some (record { revision = r; next = e }); asked = q }

-- A changed publication clears the idle request.
abbrev pub published_record : MemberState → ℕ → Option Tag → MemberState
published_record m r e = stated_record m r e (pick (same_publication m.publication r e) m.asked None)

abbrev pub granted_record : MemberState → ℕ → Tag → MemberState
granted_record m r t = record m { revision = Some r; granted = Some t }

abbrev pub bounded_record : MemberState → Tag → MemberState
bounded_record m t = record m { bound = Some t }

-- completed up to t, with so many tags left
abbrev pub completed_record : MemberState → Tag → ℕ → MemberState
completed_record m t k = record m { completed = Some t; held = k }

-- with so many tags in transit
abbrev pub carrying_record : MemberState → ℕ → MemberState
carrying_record m k = record m { held = k }

abbrev pub asked_record : MemberState → ℕ → MemberState
asked_record m r = record m { asked = Some r }

abbrev pub rested_record : MemberState → ℕ → MemberState
rested_record m r = record m { idle = Some r }

abbrev pub stopped_record : MemberState → MemberState
stopped_record m = record m { stopped = true }

-- of 24: event not finite; not after completed; while idle
abbrev pub bad_event : Option Tag → Option Tag → Option ℕ → Bool
bad_event None c k = false
bad_event (Some t) c k = either (not (finite t)) (either (tag_le t (or_never c)) (is_set k))

-- of 28: zero delay and equal to completed; positive delay and microstep not 0
abbrev pub off_route : Option Tag → ℕ → Tag → Bool
off_route c d t = pick (eqb d 0) (of_limit (same_tag t) c) (not (on_instant t))

-- of 28: completed not below granted; no grant, or after granted delayed
abbrev pub off_grant : Member → ℕ → Tag → Bool
off_grant m d t = either (not (tag_before (or_never m.completed) (or_never m.granted))) (either (is_absent m.granted) (tag_before (delayed (or_never m.granted) d) t))

-- horizon not before the event, and the revision is new or the horizon grows
abbrev pub news_for : Member → ℕ → Tag → Tag → Bool
news_for m r e h = both (tag_le e h) (either (not (mark_is m.revision r)) (tag_before (or_never m.granted) h))

-- an event is published, neither idle nor stopped
abbrev pub event_due : Member → ℕ → Option Tag → Tag → Bool
event_due m r None h = false
event_due m r (Some e) h = both (active m) (news_for m r e h)

-- rises and an event not after it is published
abbrev pub lets_pass : Option Tag → Tag → Tag → Bool
lets_pass None old new = false
lets_pass (Some e) old new = both (tag_before old new) (tag_le e new)

-- for published members neither idle nor stopped
abbrev pub bound_due : Member → Tag → Bool
bound_due m new = both (active m) (useful m.publication (or_never m.bound) new)

-- each unstopped one not idle at it
abbrev pub idle_due : Member → Bool
idle_due m = both (not m.stopped) (not (mark_is m.idle (revision_of m.publication)))

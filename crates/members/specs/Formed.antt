-- Well formed (refusal 14), as a test of a plan, a state and a slab.
-- Assumes nothing.
use Rattle.std.specs.Prelude.{ℕ, ◌+◌, ◌-◌, Bool, true, false, List, eqb, get_or, Option, Some, None}
use Rattle.basis.specs.Choice.{not, both, either}
use Rattle.tags.specs.declared.Tag.{Tag}
use Rattle.tags.specs.Tags.{tag_le}
use Rattle.transit.specs.Tags.{within}
use Rattle.transit.specs.Words.{stretch, formed_stretch}
use Rattle.states.specs.declared.Publication.{Publication}
use Rattle.states.specs.declared.MemberState.{MemberState}
use Rattle.states.specs.declared.State.{State}
use Rattle.states.specs.Records.{blank_record}
use Rattle.states.specs.Sessions.{or_never}
use Rattle.states.specs.Rules.{is_set}
unfoldable pub use Rattle.states.specs.Steps.{every}
use Rattle.plans.specs.Nets.{Net}

-- a tag, if there is one, finite with offset at most L
abbrev pub limit_within : Option Tag → Bool
limit_within None = true
limit_within (Some t) = within t

-- publication finite with offset at most L
abbrev pub event_within : Option Publication → Bool
event_within None = true
event_within (Some p) = limit_within p.next

-- completed not above granted (absent: NEVER); stopped only if idle
unfoldable pub orderly : MemberState → Bool
orderly r = both (tag_le (or_never r.completed) (or_never r.granted)) (either (not r.stopped) (is_set r.idle))

-- publication and completion within their limits
unfoldable pub limited : MemberState → Bool
limited r = both (event_within r.publication) (limit_within r.completed)

-- per member: tags no more than capacity, strictly increasing, offsets at most L, above completed, the rest of its 64 words zero;
-- publication and completion finite with offset at most L; completed not above granted; stopped only if idle
unfoldable pub formed_record : ℕ → MemberState → List ℕ → Bool
formed_record capacity r ws = both (limited r) (both (orderly r) (formed_stretch capacity (or_never r.completed) r.held ws))

abbrev pub is_unpublished : Option Publication → Bool
is_unpublished None = true
is_unpublished (Some p) = false

abbrev pub is_absent : Option Tag → Bool
is_absent None = true
is_absent (Some t) = false

-- every option of a record is absent
unfoldable pub bare : MemberState → Bool
bare r = both (is_unpublished r.publication) (both (is_absent r.granted) (both (is_absent r.bound) (is_absent r.completed)))

unfoldable pub unmarked : MemberState → Bool
unmarked r = both (not (is_set r.revision)) (both (not (is_set r.asked)) (not (is_set r.idle)))

-- Blank is what opening gives a member.
unfoldable pub is_blank : MemberState → Bool
is_blank r = both (not r.joined) (both (not r.stopped) (both (eqb r.held 0) (both (bare r) (unmarked r))))

-- the record of position i, with its stretch of the slab
unfoldable pub formed_at : Net → State → List ℕ → ℕ → Bool
formed_at p s slab i = formed_record (p.capacity i) (get_or s.members i blank_record) (stretch i slab)

-- the record at place n + k
unfoldable pub blank_at : State → ℕ → ℕ → Bool
blank_at s n k = is_blank (get_or s.members (n + k) blank_record)

-- as many records as the plan has members, each well formed, the rest blank
unfoldable pub formed : Net → State → List ℕ → Bool
formed p s slab = both (eqb s.count p.count) (both (every (formed_at p s slab) p.count) (every (blank_at s p.count) (32 - p.count)))

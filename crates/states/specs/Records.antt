-- A member's record and a state, as the code holds them, and the session that they stand for.
-- Assumes nothing.
use Rattle.std.specs.Prelude.{ℕ, Bool, false, replicate, get_or, set, None}
use Rattle.states.specs.declared.MemberState.{MemberState}
use Rattle.states.specs.declared.State.{State}

-- Blank is what opening gives a member.
abbrev pub blank_record : MemberState
blank_record = record { joined = false; publication = None; revision = None; granted = None; bound = None; completed = None; held = 0; asked = None; idle = None; stopped = false }

-- Opening gives a fresh state.
abbrev pub fresh_state : ℕ → ℕ → State
fresh_state n identity = record { members = replicate 32 blank_record; count = n; identity = identity; cause = 0; code = 0 }

-- the record of member k
abbrev pub record_at : State → ℕ → MemberState
record_at s k = get_or s.members k blank_record

-- the state with member k's record replaced
abbrev pub with_record : State → ℕ → MemberState → State
with_record s k m = record { members = set s.members k m; count = s.count; identity = s.identity; cause = s.cause; code = s.code }

unfoldable pub joined_at : State → ℕ → Bool
joined_at s k = (record_at s k).joined

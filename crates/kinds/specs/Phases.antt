-- The phase of a member.
-- Assumes nothing.
use Rattle.std.specs.Prelude.{ℕ, Bool}
use Rattle.basis.specs.Choice.{pick, not}
use Rattle.states.specs.declared.MemberState.{MemberState}
use Rattle.states.specs.declared.State.{State}
use Rattle.states.specs.Records.{record_at, joined_at}
use Rattle.states.specs.Rules.{is_set}
use Rattle.states.specs.Steps.{every}
use Rattle.requests.specs.declared.Phase.{Phase}
use Rattle.requests.specs.declared.Phase.TheVariants.{Absent, Waiting, Running, Resting, Halted}

-- once all have joined: stopped; idle; running
abbrev pub settled_phase : MemberState → Phase
settled_phase m = pick m.stopped Halted (pick (is_set m.idle) Resting Running)

-- The phase is the first that fits: not joined; waiting (another hasn't joined); stopped; idle; running.
abbrev pub phase_by : MemberState → Bool → Phase
phase_by m all = pick (not m.joined) Absent (pick (not all) Waiting (settled_phase m))

abbrev pub phase_in : State → ℕ → ℕ → Phase
phase_in s n i = phase_by (record_at s i) (every (joined_at s) n)

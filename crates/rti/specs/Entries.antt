-- What each entry answers and leaves, for any input: the refusals 11 to 17 in the paper's order, then the session's step.
-- Assumes nothing.
use Rattle.std.specs.Prelude.{ℕ, zero, suc, ◌+◌, ◌*◌, Bool, true, false, Result, Ok, Err, List, [], ltb, length}
use Rattle.basis.specs.Choice.{pick, not}
use Rattle.basis.specs.Parts.{replaced}
use Rattle.states.specs.declared.State.{State}
use Rattle.states.specs.Records.{fresh_state}
use Rattle.states.specs.Sessions.{fresh}
use Rattle.states.specs.Steps.{Out, start, every, when, or_else, step, abandon}
use Rattle.rows.specs.Rows.{members}
use Rattle.rows.specs.Nets.{net_in}
use Rattle.recognised.specs.Recognised.{refusal_in}
use Rattle.requests.specs.Asking.{asked_by}
use Rattle.members.specs.Codes.{session_of, state_of, slab_of}
use Rattle.members.specs.Formed.{formed}
use Rattle.passes.specs.Pages.{stopped_at}
use Rattle.passes.specs.Ties.{all_words}
use Rattle.rti.specs.declared.Answer.{Answer}
use Rattle.rti.specs.declared.Refusal.{Refusal}
use Rattle.rti.specs.Refusals.{refusal_no}

-- ---- refusals, first match
-- opening: 11, 12; 13 tag slab under 64 words a member
unfoldable pub open_refusal : List ℕ → ℕ → ℕ
open_refusal b words = or_else (refusal_in b) (when (ltb words (64 * members b)) 13)

-- the owner's abort: 11 to 13; 14 state not well formed; 15 delivery buffer under 7(2n+1) words
unfoldable pub abort_refusal : List ℕ → State → List ℕ → ℕ → ℕ
abort_refusal b s slab room = or_else (open_refusal b (length slab)) (or_else (when (not (formed (net_in b) s slab)) 14) (when (ltb room (7 * (2 * members b + 1))) 15))

-- a request: 11 to 15; 16 request malformed; 17 finite request tag offset above L
unfoldable pub request_refusal : List ℕ → State → List ℕ → ℕ → List ℕ → ℕ
request_refusal b s slab room request = or_else (abort_refusal b s slab room) (asked_by request).number

-- ---- what an entry answers: the refusal's number (0: none), how many deliveries are sent, and the state
pub record Answered : Type 0 where
  pub refusal : ℕ
  pub count : ℕ
  pub state : State

-- the code's answer; a refusal sends nothing, and leaves the caller the state that it gave
abbrev pub answered : State → Result Answer Refusal → Answered
answered s (Ok a) = record { refusal = 0; count = a.count; state = a.state }
answered s (Err r) = record { refusal = refusal_no r; count = 0; state = s }

-- ---- what an entry answers, the words of the slab, the words of the delivery buffer
pub record Outcome : Type 0 where
  pub answer : Answered
  pub slab : List ℕ
  pub words : List ℕ

abbrev pub leaving : Answered → List ℕ → List ℕ → Outcome
leaving a slab words = record { answer = a; slab = slab; words = words }

-- None of these changes a lent word or the state.
abbrev pub refused_with : ℕ → State → List ℕ → List ℕ → Outcome
refused_with r s slab words = leaving (record { refusal = r; count = 0; state = s }) slab words

-- the session that is left, in the state and the slab; its deliveries at the front of the buffer, later words stay
unfoldable pub shown : Out → List ℕ → List ℕ → Outcome
shown o slab words = leaving (record { refusal = 0; count = length o.sent; state = state_of o.session }) (slab_of o.session slab) (replaced 0 (all_words o.sent) words)

unfoldable pub judged : ℕ → Out → State → List ℕ → List ℕ → Outcome
judged zero o s slab words = shown o slab words
judged (suc r) o s slab words = refused_with (suc r) s slab words

-- ---- the entries
-- Opening gives a fresh state, sets each member's 64 slab words to 0 and touches no others. Refused, it answers no state, and
-- here a state of no members stands for it.
unfoldable pub opened : List ℕ → ℕ → List ℕ → Outcome
opened b identity slab = judged (open_refusal b (length slab)) (start (fresh (members b) identity)) (fresh_state 0 0) slab []

-- a request, in seven words
unfoldable pub handled : List ℕ → State → List ℕ → List ℕ → List ℕ → Outcome
handled b s slab request words =
    judged (request_refusal b s slab (length words) request) (step (net_in b) (session_of s slab) (asked_by request).member (asked_by request).request) s slab words

-- the owner's abort
unfoldable pub aborted : List ℕ → State → List ℕ → ℕ → List ℕ → Outcome
aborted b s slab code words = judged (abort_refusal b s slab (length words)) (abandon (net_in b) (session_of s slab) code) s slab words

-- Finished: ended, or every member stopped; a state that says more members than it has records is not.
unfoldable pub finished_state : State → Bool
finished_state s = pick (ltb 0 s.cause) true (pick (ltb 32 s.count) false (every (stopped_at s) s.count))

-- What a step is handed, what it leaves, and each part of it on the state and the words that the code holds.
-- Assumes nothing.
use Rattle.std.specs.Prelude.{ℕ, ◌*◌, ◌≤◌, ◌≡◌, Bool, true, false, Option, None, Some, List, ltb, eqb, length}
use Rattle.basis.specs.Choice.{pick}
use Rattle.states.specs.declared.State.{State}
use Rattle.states.specs.declared.Request.{Request}
use Rattle.states.specs.declared.Request.TheVariants.{Hello, Publish, Complete, Payload, ConfirmIdle, Stop, Abort}
use Rattle.states.specs.declared.Delivery.{Delivery}
use Rattle.states.specs.declared.Delivery.TheVariants.{Failed}
use Rattle.states.specs.Records.{joined_at}
use Rattle.states.specs.Steps.{Out, every}
use Rattle.rows.specs.Rows.{Laid, members}
use Rattle.rows.specs.Nets.{Ordered, net_in}
use Rattle.rows.specs.Loops.{over_all}
use Rattle.members.specs.Codes.{slab_of}
use Rattle.members.specs.Formed.{formed}
use Rattle.members.specs.Rules.{Mild}
use Rattle.passes.specs.declared.Progress.{Progress}
use Rattle.passes.specs.Pages.{Page, on, posting, start_at, fail_at, follow_in}
use Rattle.passes.specs.Ties.{Shows}

-- ---- what a step is handed
-- a compiled plan that opening takes
pub record Runs (b : List ℕ) : Type 0 where
  pub laid : Laid b
  pub ordered : Ordered b
  pub mild : Mild b

-- a state and a slab that are well formed for it
pub record Stands (b : List ℕ) (s : State) (w : List ℕ) : Type 0 where
  pub fits : 64 * members b ≤ length w
  pub formed : formed (net_in b) s w ≡ true

-- ---- what it leaves: the session's step, in the state, the slab and the delivery words
pub record Leaves (o : Out) (r : Progress) (held words w old : List ℕ) : Type 0 where
  pub shows : Shows o (on r words) old
  pub slab : held ≡ slab_of o.session w

-- ---- the parts
abbrev pub unsent : State → List ℕ → Page
unsent s ws = on (record { state = s; sent = 0 }) ws

-- The last Hello sends Started to all.
unfoldable pub welcome_in : ℕ → Page → Page
welcome_in n g = pick (every (joined_at g.progress.state) n) (over_all start_at n g) g

abbrev pub ended_state : State → ℕ → ℕ → State
ended_state s cause code = record { members = s.members; count = s.count; identity = s.identity; cause = cause; code = code }

-- a refusal sends Failed to all, and ends the session
unfoldable pub failed_in : State → List ℕ → ℕ → ℕ → ℕ → Page
failed_in s ws cause code n = over_all (fail_at cause code) n (unsent (ended_state s cause code) ws)

-- what an accepted request sends first
abbrev pub opened_by : Option Delivery → State → List ℕ → Page
opened_by None s ws = unsent s ws
opened_by (Some d) s ws = posting (unsent s ws) d

abbrev pub is_hello : Request → Bool
is_hello (Hello d) = true
is_hello (Publish r e) = false
is_hello (Complete t) = false
is_hello (Payload k t h) = false
is_hello (ConfirmIdle r) = false
is_hello Stop = false
is_hello (Abort c) = false

-- what follows: Started after Hello; grants, Idle and bounds after every other kind
unfoldable pub after_in : List ℕ → List ℕ → Page → ℕ → Request → Page
after_in b w g i q = pick (is_hello q) (welcome_in (members b) g) (follow_in b w g i)

-- what Failed says of an ended session's code: it is given only with cause 20
abbrev pub code_said : State → ℕ
code_said s = pick (eqb s.cause 20) s.code 0

-- An ended one answers any request with one Failed to the member word given.
abbrev pub over_in : State → List ℕ → ℕ → Page
over_in s ws member = posting (unsent s ws) (Failed member s.cause (code_said s))

-- the owner's abort: cause 20 and its code unless a cause stands
abbrev pub aborted_state : State → ℕ → State
aborted_state s code = pick (ltb 0 s.cause) s (ended_state s 20 code)

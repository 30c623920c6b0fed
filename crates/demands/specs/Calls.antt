-- Histories over the entries: what a host holds after one opening and any calls, and what is certain of it.
-- Assumes nothing.
use Rattle.std.specs.Prelude.{ℕ, ◌<◌, ◌≤◌, ◌≡◌, List, get_or}
use Rattle.tags.specs.Tags.{top}
use Rattle.states.specs.declared.State.{State}
use Rattle.states.specs.Sessions.{view}
use Rattle.states.specs.Steps.{finished}
use Rattle.rows.specs.Rows.{members}
use Rattle.rows.specs.Nets.{net_in}
use Rattle.members.specs.Codes.{session_of}
use Rattle.rti.specs.Entries.{opened as opened_by, handled, aborted as abortedBy, finished_state}
use Rattle.demands.specs.Histories.{Answered, Moves}
use Rattle.demands.specs.Words.{Stands}

-- A session: one opening that is not refused, and its calls, accepted or refused, on one plan, state and slab as last left. A call
-- is lent any seven or other words, each below 2^64, and any delivery buffer.
pub data History (b : List ℕ) : State → List ℕ → Type 0 where
  opened : (identity : ℕ) (slab : List ℕ) → (opened_by b identity slab).answer.refusal ≡ 0 → History b (opened_by b identity slab).answer.state (opened_by b identity slab).slab
  asked : {s : State} {slab : List ℕ} → History b s slab → (request words : List ℕ) → ((k : ℕ) → get_or request k 0 ≤ top)
      → History b (handled b s slab request words).answer.state (handled b s slab request words).slab
  aborted : {s : State} {slab : List ℕ} → History b s slab → (code : ℕ) (words : List ℕ)
      → History b (abortedBy b s slab code words).answer.state (abortedBy b s slab code words).slab

-- what is certain after every call
pub record Kept (b : List ℕ) (s : State) (slab : List ℕ) : Type 0 where
  -- state and slab are well formed, and the words of a session that a history of 01's steps leads to
  pub stands : Stands (net_in b) s slab
  -- so no call is refused with 14; nor, plan and slab being as they were, with 11, 12 or 13
  pub asked : (request words : List ℕ) → 0 < (handled b s slab request words).answer.refusal → 15 ≤ (handled b s slab request words).answer.refusal
  pub aborted : (code : ℕ) (words : List ℕ) → 0 < (abortedBy b s slab code words).answer.refusal → 15 ≤ (abortedBy b s slab code words).answer.refusal
  -- Demand 3: whoever's horizon reaches its published event holds a grant up to that horizon
  pub grants : (j : ℕ) → j < members b → Answered (net_in b) (view (session_of s slab)) j
  -- and the session moves
  pub moves : Moves (net_in b) (view (session_of s slab))
  -- Finished: ended, or every member stopped
  pub finished : finished_state s ≡ finished (net_in b) (session_of s slab)

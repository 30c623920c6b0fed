-- What the user must be certain of, over the entries that a host calls. Start here; `Demands` says the same of sessions as 01 defines them.
-- Assumes nothing.
use Rattle.std.specs.Prelude.{ℕ, ◌≡◌, true, List, length}
use Rattle.states.specs.declared.State.{State}
use Rattle.states.specs.Steps.{finished}
use Rattle.rows.specs.Plans.{plan_in}
use Rattle.rows.specs.Nets.{net_in}
use Rattle.recognised.specs.Recognised.{refusal_in}
use Rattle.members.specs.Codes.{session_of}
use Rattle.members.specs.Formed.{formed}
use Rattle.rti.specs.Entries.{opened, handled, aborted, finished_state}
use Rattle.demands.specs.Nets.{net_of, Alike}
use Rattle.demands.specs.Determined.{Determined}
use Rattle.demands.specs.Entries.{Opens, Aborts, Handles}
use Rattle.demands.specs.Calls.{History, Kept}
use Rattle.demands.specs.Demands.{Demands}

-- of any bytes b in the place of a compiled plan, and any state (the code's states have 32 records), slab, request and delivery words
pub record Certain (b : List ℕ) : Type 0 where
  -- ---- Demand 1: each call gets an answer, and one only; a refusal carries the number that 01's order gives it and alters nothing
  pub opens : (identity : ℕ) (slab : List ℕ) → Opens b identity slab (opened b identity slab)
  pub one-opening : (identity : ℕ) (slab : List ℕ) → Determined (Opens b identity slab)
  pub handles : (s : State) → length s.members ≡ 32 → (slab request words : List ℕ) → Handles b s slab request words (handled b s slab request words)
  pub one-handling : (s : State) (slab request words : List ℕ) → Determined (Handles b s slab request words)
  pub aborts : (s : State) → length s.members ≡ 32 → (slab : List ℕ) (code : ℕ) (words : List ℕ) → Aborts b s slab code words (aborted b s slab code words)
  pub one-abort : (s : State) (slab : List ℕ) (code : ℕ) (words : List ℕ) → Determined (Aborts b s slab code words)
  -- ---- Demand 2: where neither 11 nor 12 applies, the delays that calls read off the bytes are the direct and minimum delays of
  -- the plan in them; those, zero cycles, grants, downstream bounds and idle stops are 01's
  pub delays : refusal_in b ≡ 0 → Alike (net_of (plan_in b)) (net_in b)
  pub demands : refusal_in b ≡ 0 → Demands (plan_in b) (net_in b)
  -- ---- Demand 3, and that no call of a session is refused with 14: of what a host holds after any history of calls
  pub kept : (s : State) (slab : List ℕ) → History b s slab → Kept b s slab
  -- Finished: ended, or every member stopped; of any state that is well formed
  pub finished : refusal_in b ≡ 0 → (s : State) (slab : List ℕ) → formed (net_in b) s slab ≡ true → finished_state s ≡ finished (net_in b) (session_of s slab)

-- Histories over what a host holds: a state and a slab of words, as last left by each call.
-- Assumes nothing.
use Rattle.std.specs.Prelude.{ℕ, ◌*◌, ◌<◌, ◌≤◌, ◌≡◌, true, List, length, get_or}
use Rattle.tags.specs.Tags.{top}
use Rattle.plans.specs.Nets.{Net}
use Rattle.states.specs.declared.State.{State}
use Rattle.states.specs.Sessions.{Session, fresh}
use Rattle.states.specs.Steps.{step, abandon}
use Rattle.requests.specs.Asking.{asked_by}
use Rattle.members.specs.Codes.{session_of, state_of, slab_of}
use Rattle.members.specs.Formed.{formed}
use Rattle.demands.specs.Histories.{Reached}

-- 01's bounds: 32 members, 32 in-transit tags a member
pub record Bounded (p : Net) : Type 0 where
  pub few : p.count ≤ 32
  pub small : (i : ℕ) → i < p.count → p.capacity i ≤ 32

-- the session after the request that seven words ask
abbrev pub heard_by : Net → Session → List ℕ → Session
heard_by p s words = (step p s (asked_by words).member (asked_by words).request).session

-- A session: one opening and its calls, on one plan, state and slab as last left. A request is seven 64-bit words that are refused
-- with neither 16 nor 17. A call refused with 11 to 17 leaves state and slab.
pub data Held (p : Net) : State → List ℕ → Type 0 where
  opened : (identity : ℕ) (slab : List ℕ) → 64 * p.count ≤ length slab → Held p (state_of (fresh p.count identity)) (slab_of (fresh p.count identity) slab)
  asked : {s : State} {slab : List ℕ} → Held p s slab → (words : List ℕ) → ((k : ℕ) → get_or words k 0 ≤ top) → (asked_by words).number ≡ 0
      → Held p (state_of (heard_by p (session_of s slab) words)) (slab_of (heard_by p (session_of s slab) words) slab)
  aborted : {s : State} {slab : List ℕ} → Held p s slab → (code : ℕ)
      → Held p (state_of (abandon p (session_of s slab) code).session) (slab_of (abandon p (session_of s slab) code).session slab)
  refused : {s : State} {slab : List ℕ} → Held p s slab → Held p s slab

-- what a state and a slab are after any history: the words of a session that a history leads to, and well formed (14 never arises)
pub record Stands (p : Net) (s : State) (slab : List ℕ) : Type 0 where
  pub reached : Reached p (session_of s slab)
  pub state : s ≡ state_of (session_of s slab)
  pub words : slab ≡ slab_of (session_of s slab) slab
  pub formed : formed p s slab ≡ true

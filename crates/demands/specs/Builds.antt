-- Builds of the entry `handle` that are not right, and what demands 2 and 3 ask of a build.
-- Assumes nothing.
use Rattle.std.specs.Prelude.{ℕ, ◌<◌, ◌≤◌, ◌≡◌, List, [], ◌∷◌, length, get_or}
use Rattle.tags.specs.Tags.{top}
use Rattle.states.specs.declared.State.{State}
use Rattle.states.specs.Sessions.{view}
use Rattle.rows.specs.Rows.{members}
use Rattle.rows.specs.Nets.{net_in}
use Rattle.requests.specs.Asking.{asked_by}
use Rattle.members.specs.Codes.{session_of}
use Rattle.rti.specs.Entries.{Outcome, request_refusal, judged, opened as opened_by, handled}
use Rattle.demands.specs.Histories.{Answered, Moves}
use Rattle.demands.specs.Shams.{Build, refusing, grants_once}
use Rattle.demands.specs.Talk.{Host, left_by}

-- what answers a request: from plan bytes, state, slab, request and delivery words
abbrev pub Handle : Type 0
Handle = List ℕ → State → List ℕ → List ℕ → List ℕ → Outcome

-- Demand 2 of a build: each request is answered as 01 says.
abbrev pub Right : Handle → Type 0
Right f = (b : List ℕ) (s : State) (slab request words : List ℕ) → f b s slab request words ≡ handled b s slab request words

-- its histories: one opening that is not refused, then any requests
pub data HistoryBy (f : Handle) (b : List ℕ) : State → List ℕ → Type 0 where
  opened : (identity : ℕ) (slab : List ℕ) → (opened_by b identity slab).answer.refusal ≡ 0 → HistoryBy f b (opened_by b identity slab).answer.state (opened_by b identity slab).slab
  asked : {s : State} {slab : List ℕ} → HistoryBy f b s slab → (request words : List ℕ) → ((k : ℕ) → get_or request k 0 ≤ top)
      → HistoryBy f b (f b s slab request words).answer.state (f b s slab request words).slab

-- Demand 3 of a build
abbrev pub Moving : Handle → Type 0
Moving f = (b : List ℕ) → ((i : ℕ) → get_or b i 0 < 256) → (s : State) (slab : List ℕ) → HistoryBy f b s slab
    → ((j : ℕ) → j < members b → Answered (net_in b) (view (session_of s slab)) j) × Moves (net_in b) (view (session_of s slab))

-- ---- the shams
-- refusing always, and altering nothing
pub record Refusing (f : Handle) : Type 0 where
  pub number : (b : List ℕ) (s : State) (slab request words : List ℕ) → 0 < (f b s slab request words).answer.refusal
  pub state : (b : List ℕ) (s : State) (slab request words : List ℕ) → (f b s slab request words).answer.state ≡ s
  pub slab : (b : List ℕ) (s : State) (slab request words : List ℕ) → (f b s slab request words).slab ≡ slab

-- a fixed answer
abbrev pub Fixed : Outcome → Handle → Type 0
Fixed o f = (b : List ℕ) (s : State) (slab request words : List ℕ) → f b s slab request words ≡ o

-- one that leaves the state alone
abbrev pub Idle : Handle → Type 0
Idle f = (b : List ℕ) (s : State) (slab request words : List ℕ) → (f b s slab request words).answer.state ≡ s

-- a made-up delivery count
abbrev pub Counting : ℕ → Handle → Type 0
Counting k f = (b : List ℕ) (s : State) (slab request words : List ℕ) → (f b s slab request words).answer.count ≡ k

-- a build of the session's step (`Shams`) in the place of 01's
unfoldable pub carrying : Build → Handle
carrying f b s slab request words = judged (request_refusal b s slab (length words) request) (f (net_in b) (session_of s slab) (asked_by request).member (asked_by request).request) s slab words

-- refusing always inside the session, with Failed to all; one that grants on first publication only
abbrev pub failing : ℕ → Handle
failing n = carrying (refusing n)

abbrev pub once : Handle
once = carrying grants_once

-- what a host holds after requests to a build, each lent the buffer `words`
unfoldable pub after : Handle → List ℕ → List ℕ → Host → List (List ℕ) → Host
after f b words h [] = h
after f b words h (q ∷ qs) = after f b words (left_by (f b h.state h.slab q words)) qs

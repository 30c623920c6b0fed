-- Demand 1 over the entries: the refusals 11 to 17 as lists in 01's order, and what a call leaves, in the host's words.
-- Assumes nothing.
use Rattle.std.specs.Prelude.{ℕ, ◌+◌, ◌*◌, ◌<◌, ◌≤◌, ◌≡◌, Bool, false, List, [], ◌∷◌, ◌++◌, ltb, eqb, length, get_or, drop, replicate}
use Rattle.basis.specs.Choice.{not, both, either}
use Rattle.transit.specs.Tags.{limit}
use Rattle.states.specs.declared.State.{State}
use Rattle.states.specs.declared.Request.{Request}
use Rattle.states.specs.declared.Delivery.{Delivery}
use Rattle.states.specs.declared.Delivery.TheVariants.{Failed}
use Rattle.states.specs.Records.{fresh_state}
use Rattle.states.specs.Steps.{Out, any, to_all, code_of}
use Rattle.rows.specs.Rows.{members}
use Rattle.rows.specs.Plans.{plan_in}
use Rattle.rows.specs.Nets.{net_in}
use Rattle.recognised.specs.Recognised.{is_image, longer}
use Rattle.requests.specs.Asking.{asked_by}
use Rattle.members.specs.Codes.{session_of, state_of, slab_of}
use Rattle.members.specs.Formed.{formed}
use Rattle.passes.specs.Ties.{all_words}
use Rattle.steps.specs.Steps.{ended_state, code_said}
use Rattle.rti.specs.Entries.{Outcome}
use Rattle.demands.specs.Refusals.{Ground, because, First, grounds}
use Rattle.demands.specs.Answers.{Answer}

-- ---- the seven words of a request: member, kind, number, tag class, offset, microstep, extra
unfoldable pub among : ℕ → List ℕ → Bool
among k [] = false
among k (x ∷ xs) = either (eqb k x) (among k xs)

-- 16 is not seven words, any other kind or class, offset or microstep not 0 outside class 1, an unused word not as said (number in
-- kinds 3 and 6, extra outside kind 4, the tag in kinds 1, 5, 6 and 7), or class 3 in kinds 3 and 4.
unfoldable pub malformed : List ℕ → Bool
malformed l =
    let kind = get_or l 1 0 in
    let class = get_or l 3 0 in
    any (
    not (eqb (length l) 7)
    ∷ not (among kind (1 ∷ 2 ∷ 3 ∷ 4 ∷ 5 ∷ 6 ∷ 7 ∷ []))
    ∷ not (among class (0 ∷ 1 ∷ 2 ∷ 3 ∷ []))
    ∷ both (not (eqb class 1)) (not (both (eqb (get_or l 4 0) 0) (eqb (get_or l 5 0) 0)))
    ∷ both (among kind (3 ∷ 6 ∷ [])) (not (eqb (get_or l 2 0) 0))
    ∷ both (not (eqb kind 4)) (not (eqb (get_or l 6 0) 0))
    ∷ both (among kind (1 ∷ 5 ∷ 6 ∷ 7 ∷ [])) (not (eqb class 3))
    ∷ both (among kind (3 ∷ 4 ∷ [])) (eqb class 3) ∷ [])

-- 17: finite request tag offset above L
unfoldable pub beyond : List ℕ → Bool
beyond l = both (eqb (get_or l 3 0) 1) (ltb limit (get_or l 4 0))

-- ---- the lists: opening checks 11 to 13, the owner's abort 11 to 15, a request 11 to 17
-- 11: bytes aren't the compiled plan of their own members and edges; 12: an edge or minimum delay above L; 13: tag slab under 64
-- words a member
unfoldable pub open_grounds : List ℕ → List ℕ → List Ground
open_grounds b slab = because 11 (not (is_image b)) ∷ because 12 (longer (plan_in b)) ∷ because 13 (ltb (length slab) (64 * members b)) ∷ []

-- 14: state not well formed; 15: delivery buffer under 7(2n+1) words
unfoldable pub abort_grounds : List ℕ → State → List ℕ → List ℕ → List Ground
abort_grounds b s slab words = open_grounds b slab ++ (because 14 (not (formed (net_in b) s slab)) ∷ because 15 (ltb (length words) (7 * (2 * members b + 1))) ∷ [])

-- 16: request malformed; 17: finite request tag offset above L
unfoldable pub request_grounds : List ℕ → State → List ℕ → List ℕ → List ℕ → List Ground
request_grounds b s slab request words = abort_grounds b s slab words ++ (because 16 (malformed request) ∷ because 17 (beyond request) ∷ [])

-- ---- what a call leaves: the state, the words of the slab, the words of the delivery buffer
-- refused with n: nothing is sent, and none of these changes a lent word or the state
pub record Untouched (n : ℕ) (s : State) (held buffer : List ℕ) (o : Outcome) : Type 0 where
  pub number : o.answer.refusal ≡ n
  pub count : o.answer.count ≡ 0
  pub state : o.answer.state ≡ s
  pub slab : o.slab ≡ held
  pub words : o.words ≡ buffer

-- taken: these deliveries, seven words each, at the front of the buffer; later words stay
pub record Sends (ds : List Delivery) (s : State) (held buffer : List ℕ) (o : Outcome) : Type 0 where
  pub number : o.answer.refusal ≡ 0
  pub count : o.answer.count ≡ length ds
  pub state : o.answer.state ≡ s
  pub slab : o.slab ≡ held
  pub words : o.words ≡ all_words ds ++ drop (7 * length ds) buffer

-- ---- the entries
-- Opening gives a fresh state, sets each member's 64 slab words to 0 and touches no others.
pub record Opens (b : List ℕ) (identity : ℕ) (slab : List ℕ) (o : Outcome) : Type 0 where
  pub refused : (n : ℕ) → 0 < n → First (open_grounds b slab) n → Untouched n (fresh_state 0 0) slab [] o
  pub taken : First (open_grounds b slab) 0 → Sends [] (fresh_state (members b) identity) (replicate (64 * members b) 0 ++ drop (64 * members b) slab) [] o

-- The owner's abort sends Failed to all, ascending, with cause 20 and its code unless a cause stands; it leaves every record and
-- every slab word.
pub record Aborts (b : List ℕ) (s : State) (slab : List ℕ) (code : ℕ) (words : List ℕ) (o : Outcome) : Type 0 where
  pub refused : (n : ℕ) → 0 < n → First (abort_grounds b s slab words) n → Untouched n s slab words o
  pub going : First (abort_grounds b s slab words) 0 → s.cause ≡ 0 → Sends (to_all (λ k. Failed k 20 code) (members b)) (ended_state s 20 code) slab words o
  pub over : First (abort_grounds b s slab words) 0 → 0 < s.cause → Sends (to_all (λ k. Failed k s.cause (code_said s)) (members b)) s slab words o

-- who asks, the first word, and what, in words that are not malformed
abbrev pub asker : List ℕ → ℕ
asker request = get_or request 0 0

abbrev pub asking : List ℕ → Request
asking request = (asked_by request).request

-- A request that is refused with none of 11 to 17 is answered as the session's step (`Answer`), in the words of the session that is left.
pub record Handles (b : List ℕ) (s : State) (slab request words : List ℕ) (o : Outcome) : Type 0 where
  pub refused : (n : ℕ) → 0 < n → First (request_grounds b s slab request words) n → Untouched n s slab words o
  pub taken : First (request_grounds b s slab request words) 0
      → (x : Out) × Answer (net_in b) (session_of s slab) (asker request) (asking request) x × Sends x.sent (state_of x.session) (slab_of x.session slab) words o
  -- They number at most 2n+1.
  pub few : o.answer.count ≤ 2 * members b + 1
  -- An ended session answers any request with one Failed to the member word given, known or not.
  pub over : First (request_grounds b s slab request words) 0 → 0 < s.cause → Sends (Failed (asker request) s.cause (code_said s) ∷ []) s slab words o
  -- Otherwise the first of 20 to 32 that applies ends it: the cause is set, Failed goes to every member, ascending, and every
  -- record and every slab word is as it was.
  pub ends : First (request_grounds b s slab request words) 0 → s.cause ≡ 0 → (n : ℕ) → 0 < n → First (grounds (net_in b) (session_of s slab) (asker request) (asking request)) n
      → Sends (to_all (λ k. Failed k n (code_of (asking request))) (members b)) (ended_state s n (code_of (asking request))) slab words o

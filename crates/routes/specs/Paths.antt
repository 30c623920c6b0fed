-- A path by edge positions whose delays sum to the minimum, and how one is written from its end.
-- Assumes nothing.
use Rattle.std.specs.Prelude.{Bool, ◌≡◌, ◌↔◌, List, ℕ, zero, suc, ◌+◌, ◌-◌, ◌<◌, ◌≤◌, ltb, eqb, length, get_or, map, replicate, Result, Ok, Err}
use Rattle.basis.specs.Choice.{pick, not, both}
use Rattle.plans.specs.declared.Plan.{Plan}
use Rattle.plans.specs.declared.Refusal.{Refusal}
use Rattle.plans.specs.Numbers.{Reason, no_reason, reason_of}
use Rattle.plans.specs.Reading.{reading_of}
use Rattle.delays.specs.Graph.{far, Walk as Path, EdgeOf, minimum_of}
use Rattle.delays.specs.Refusals.{or_else, refusal_of}
use Rattle.routes.specs.declared.Walk.{Walk}
use Rattle.routes.specs.declared.marking.Mark.{Mark}
use Rattle.routes.specs.declared.marking.Mark.TheVariants.{Not, After, Alone}
use Rattle.routes.specs.Closed.{listed}

-- the delays of the first k edges that ws lists, together
unfoldable pub delay_sum : List ℕ → List ℕ → ℕ → ℕ
delay_sum delay ws zero = 0
delay_sum delay ws (suc k) = delay_sum delay ws k + get_or delay (get_or ws k 0) 0

-- "For any pair with a minimum delay, a path attaining it .. 32 edges at most": the first leaves s, each leads to where the
-- next leaves, the last leads to t, and the delays sum to the minimum
pub record PathRight (p : Plan) (s t : ℕ) (ws : List ℕ) : Type 0 where
  pub some : 1 ≤ length ws
  pub few : length ws ≤ 32
  pub inside : (i : ℕ) → i < length ws → get_or ws i 0 < p.edges
  pub starts : get_or p.sources (get_or ws 0 0) 0 ≡ s
  pub joined : (i : ℕ) → i + 1 < length ws → get_or p.targets (get_or ws i 0) 0 ≡ get_or p.sources (get_or ws (i + 1) 0) 0
  pub ends : get_or p.targets (get_or ws (length ws - 1) 0) 0 ≡ t
  pub least : delay_sum p.delays ws (length ws) ≡ minimum_of p s t

-- the answer for a pair: a path that attains its minimum, or none where there is no path; unused places are 0
pub record Answered (p : Plan) (s t : ℕ) (w : Walk) : Type 0 where
  pub right : 0 < w.count → PathRight p s t (listed w)
  pub missing : (w.count ≡ 0) ↔ ((d : ℕ) → Path (EdgeOf p) s t d → ⊥)
  pub few : w.count ≤ 32
  pub blank : (i : ℕ) → w.count ≤ i → get_or w.edges i 0 ≡ 0

-- the outcome of a search: a refusal, or none and the walk
pub record Found : Type 0 where
  pub refusal : Reason
  pub count : ℕ
  pub edges : List ℕ

abbrev pub found : Result Walk Refusal → Found
found (Ok w) = record { refusal = no_reason; count = w.count; edges = w.edges }
found (Err r) = record { refusal = reason_of r; count = 0; edges = replicate 32 0 }

abbrev pub walk_of : Found → Walk
walk_of r = record { count = r.count; edges = r.edges }

-- nothing is listed
pub record Blank (r : Found) : Type 0 where
  pub count : r.count ≡ 0
  pub blank : (i : ℕ) → get_or r.edges i 0 ≡ 0

-- "refusals .. 1 to 9 (path) come first"
unfoldable pub path_refusal : List ℕ → Reason
path_refusal b = or_else (reading_of b).refusal (refusal_of (reading_of b).plan)

-- what is said of a pair: the refusal q, and then nothing; or none, and the answer
pub record Sought (p : Plan) (s t : ℕ) (q : Reason) (r : Found) : Type 0 where
  pub refusal : r.refusal ≡ q
  pub refused : (q.number ≡ 0 → ⊥) → Blank r
  pub answered : q.number ≡ 0 → Answered p s t (walk_of r)

abbrev pub Attained : List ℕ → ℕ → ℕ → Found → Type 0
Attained b s t r = Sought (reading_of b).plan s t (path_refusal b) r

-- how an edge from s to t stands to the minimum delays g from one member: 2 if it leaves that member and attains t's
-- minimum alone, 1 if it attains it after s's, 0 if neither
unfoldable pub mark_of : (ℕ → ℕ) → ℕ → ℕ → ℕ → ℕ → ℕ
mark_of g from s t d = pick (ltb (g t) far) (pick (both (eqb s from) (eqb d (g t))) 2 (pick (eqb (g s + d) (g t)) 1 0)) 0

-- marks as these numbers
abbrev pub mark_no : Mark → ℕ
mark_no Not = 0
mark_no After = 1
mark_no Alone = 2

abbrev pub marks_of : List Mark → List ℕ
marks_of marks = map mark_no marks

-- each of m edges is marked so; later places are as they were
pub record Marked (src dst delay : List ℕ) (m : ℕ) (g : ℕ → ℕ) (from : ℕ) (was marks : List ℕ) : Type 0 where
  pub set : (i : ℕ) → i < m → get_or marks i 0 ≡ mark_of g from (get_or src i 0) (get_or dst i 0) (get_or delay i 0)
  pub rest : (i : ℕ) → m ≤ i → get_or marks i 0 ≡ get_or was i 0

-- edge e is marked and leads to `at`
unfoldable pub enters : List ℕ → List ℕ → ℕ → ℕ → Bool
enters dst marks at e = both (eqb (get_or dst e 0) at) (not (eqb (get_or marks e 0) 0))

-- going back from `at` by marked edges, any way, ends within `left` edges at one marked 2
unfoldable pub Back : List ℕ → List ℕ → List ℕ → ℕ → ℕ → Type 0
Back src dst marks at zero = ⊥
Back src dst marks at (suc left) =
    ((e : ℕ) × (e < 256) × (get_or dst e 0 ≡ at) × (get_or marks e 0 ≡ 0 → ⊥))
    × ((k : ℕ) → k < 256 → get_or dst k 0 ≡ at → (get_or marks k 0 ≡ 0 → ⊥) → (get_or marks k 0 ≡ 2 → ⊥) → Back src dst marks (get_or src k 0) left)

-- the first r places are marked edges, of which the first alone has 2, each leading to where the next leaves, the last to
-- `at`; later places are as they were
pub record Written (src dst marks was out : List ℕ) (at left r : ℕ) : Type 0 where
  pub some : 1 ≤ r
  pub few : r ≤ left
  pub first : get_or marks (get_or out 0 0) 0 ≡ 2
  pub later : (i : ℕ) → 0 < i → i < r → (get_or marks (get_or out i 0) 0 ≡ 0 → ⊥) × (get_or marks (get_or out i 0) 0 ≡ 2 → ⊥)
  pub joined : (i : ℕ) → i + 1 < r → get_or dst (get_or out i 0) 0 ≡ get_or src (get_or out (i + 1) 0) 0
  pub ends : get_or dst (get_or out (r - 1) 0) 0 ≡ at
  pub rest : (i : ℕ) → r ≤ i → get_or out i 0 ≡ get_or was i 0

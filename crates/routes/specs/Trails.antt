-- A witness: how one is found, member by member along kept edges, until a member repeats.
-- Assumes nothing.
use Rattle.std.specs.Prelude.{Bool, ◌≡◌, ◌⊎◌, ◌↔◌, List, [], ◌∷◌, ℕ, suc, ◌+◌, ◌-◌, ◌<◌, ◌≤◌, eqb, get_or, map, true, false, Option, None, Some}
use Rattle.basis.specs.Choice.{pick, not, both}
use Rattle.plans.specs.declared.Plan.{Plan}
use Rattle.plans.specs.Reading.{reading_of}
use Rattle.delays.specs.Refusals.{refusal_of}
use Rattle.routes.specs.declared.Walk.{Walk}
use Rattle.routes.specs.Closed.{ClosedZero, listed}
use Rattle.routes.specs.Paths.{Found, walk_of, Blank}

-- "A witness lists edge positions of one such closed walk": one exactly where 8 applies; unused places are 0
pub record Witness (p : Plan) (w : Walk) : Type 0 where
  pub right : 0 < w.count → ClosedZero p (listed w)
  pub missing : (w.count ≡ 0) ↔ ((refusal_of p).number ≡ 8 → ⊥)
  pub few : w.count ≤ 32
  pub blank : (i : ℕ) → w.count ≤ i → get_or w.edges i 0 ≡ 0

-- a walk that is one
pub record Closing (p : Plan) (w : Walk) : Type 0 where
  pub some : 1 ≤ w.count
  pub few : w.count ≤ 32
  pub right : ClosedZero p (listed w)
  pub blank : (i : ℕ) → w.count ≤ i → get_or w.edges i 0 ≡ 0

-- "refusals 1 to 7 (witness) .. come first"
pub record Witnessed (b : List ℕ) (r : Found) : Type 0 where
  pub refusal : r.refusal ≡ (reading_of b).refusal
  pub refused : (r.refusal.number ≡ 0 → ⊥) → Blank r
  pub answered : r.refusal.number ≡ 0 → Witness (reading_of b).plan (walk_of r)

-- 1 if an edge to t with delay d has none, and t has a minimum of 0 to the member `home`; else 0
unfoldable pub keep_of : (ℕ → ℕ → ℕ) → ℕ → ℕ → ℕ → ℕ
keep_of g home t d = pick (both (eqb d 0) (eqb (g t home) 0)) 1 0

-- kept as 1, else 0
abbrev pub kept_no : Bool → ℕ
kept_no true = 1
kept_no false = 0

abbrev pub kept_of : List Bool → List ℕ
kept_of kept = map kept_no kept

-- a visited member as 1 more than how many edges led to it, else 0
abbrev pub seen_no : Option ℕ → ℕ
seen_no None = 0
seen_no (Some i) = suc i

abbrev pub seen_of : List (Option ℕ) → List ℕ
seen_of seen = map seen_no seen

-- each of m edges is kept or not; later places are as they were
pub record Keeping (dst delay : List ℕ) (m : ℕ) (g : ℕ → ℕ → ℕ) (home : ℕ) (was kept : List ℕ) : Type 0 where
  pub set : (i : ℕ) → i < m → get_or kept i 0 ≡ keep_of g home (get_or dst i 0) (get_or delay i 0)
  pub rest : (i : ℕ) → m ≤ i → get_or kept i 0 ≡ get_or was i 0

-- edge e is kept and leaves the member
unfoldable pub leaving : List ℕ → List ℕ → ℕ → ℕ → Bool
leaving src kept member e = both (eqb (get_or src e 0) member) (not (eqb (get_or kept e 0) 0))

-- from place k on, a kept edge leaves the member
pub record Leaves (src kept : List ℕ) (member k : ℕ) : Type 0 where
  pub edge : ℕ
  pub ahead : k ≤ edge
  pub inside : edge < 256
  pub from : get_or src edge 0 ≡ member
  pub keeps : get_or kept edge 0 ≡ 0 → ⊥

-- where a kept edge leads, a kept edge leaves
pub record Onward (src dst kept : List ℕ) : Type 0 where
  pub small : (k : ℕ) → k < 256 → (get_or kept k 0 ≡ 0 → ⊥) → get_or dst k 0 < 32
  pub on : (k : ℕ) → k < 256 → (get_or kept k 0 ≡ 0 → ⊥) → Leaves src kept (get_or dst k 0) 0

-- how many members are not visited
unfoldable pub unvisited : List ℕ → ℕ
unvisited [] = 0
unvisited (x ∷ xs) = pick (eqb x 0) 1 0 + unvisited xs

-- the first `depth` places are kept edges, each leading to where the next leaves, the last to the member; a visited
-- member has the number, from 1 on, of the edge that left it
pub record Trail (src dst kept seen out : List ℕ) (member depth : ℕ) : Type 0 where
  pub keeps : (i : ℕ) → i < depth → (get_or out i 0 < 256) × (get_or kept (get_or out i 0) 0 ≡ 0 → ⊥)
  pub joined : (i : ℕ) → i + 1 < depth → get_or dst (get_or out i 0) 0 ≡ get_or src (get_or out (i + 1) 0) 0
  pub last : (i : ℕ) → i + 1 ≡ depth → get_or dst (get_or out i 0) 0 ≡ member
  pub marks : (x i : ℕ) → get_or seen x 0 ≡ suc i → (i < depth) × (get_or src (get_or out i 0) 0 ≡ x)
  pub count : depth + unvisited seen ≡ 32

-- the same, with the member itself visited, and no edge that left it yet
pub record Standing (src dst kept seen out : List ℕ) (member depth : ℕ) : Type 0 where
  pub keeps : (i : ℕ) → i < depth → (get_or out i 0 < 256) × (get_or kept (get_or out i 0) 0 ≡ 0 → ⊥)
  pub joined : (i : ℕ) → i + 1 < depth → get_or dst (get_or out i 0) 0 ≡ get_or src (get_or out (i + 1) 0) 0
  pub last : (i : ℕ) → i + 1 ≡ depth → get_or dst (get_or out i 0) 0 ≡ member
  pub marks : (x i : ℕ) → get_or seen x 0 ≡ suc i → ((i < depth) × (get_or src (get_or out i 0) 0 ≡ x)) ⊎ ((i ≡ depth) × (x ≡ member))
  pub count : depth + 1 + unvisited seen ≡ 32

-- the places from start up to end are kept edges, each leading to where the next leaves, the last to where the first does
pub record Stretch (src dst kept out : List ℕ) (start end : ℕ) : Type 0 where
  pub some : start < end
  pub few : end ≤ 32
  pub keeps : (i : ℕ) → i < end → (get_or out i 0 < 256) × (get_or kept (get_or out i 0) 0 ≡ 0 → ⊥)
  pub joined : (i : ℕ) → i + 1 < end → get_or dst (get_or out i 0) 0 ≡ get_or src (get_or out (i + 1) 0) 0
  pub closed : get_or dst (get_or out (end - 1) 0) 0 ≡ get_or src (get_or out start 0) 0

-- the first n places are those of `out` from start on; later ones are as they were
pub record Moved (out was es : List ℕ) (start n : ℕ) : Type 0 where
  pub set : (i : ℕ) → i < n → get_or es i 0 ≡ get_or out (start + i) 0
  pub rest : (i : ℕ) → n ≤ i → get_or es i 0 ≡ get_or was i 0

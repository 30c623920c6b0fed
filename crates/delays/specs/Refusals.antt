-- Refusals 8 and 9 of a plan.
-- Assumes nothing.
use Rattle.std.specs.Prelude.{Bool, ◌≡◌, List, ℕ, ltb, eqb, get_or}
use Rattle.basis.specs.Choice.{pick, both}
use Rattle.plans.specs.declared.Plan.{Plan}
use Rattle.plans.specs.Numbers.{Reason}
use Rattle.delays.specs.Graph.{far, direct_of, minimum_of}
use Rattle.delays.specs.Cells.{Held}
use Rattle.delays.specs.Search.{first, mask_of}

abbrev pub accepted : Reason
accepted = record { number = 0; mask = 0; first = 0; second = 0 }

-- "8: zero cycle"
abbrev pub zero_cycle : ℕ → Reason
zero_cycle m = record { number = 8; mask = m; first = 0; second = 0 }

-- "9: a minimum above 2^64-1"
abbrev pub too_far_from : ℕ → ℕ → Reason
too_far_from s t = record { number = 9; mask = 0; first = s; second = t }

-- the first of n members that has a minimum of 0 to itself, or n
unfoldable pub first_loop : (ℕ → ℕ → ℕ) → ℕ → ℕ
first_loop g n = first (λ (i : ℕ). eqb (g i i) 0) 0 n

-- each has a minimum of 0 to the other
unfoldable pub linked_by : (ℕ → ℕ → ℕ) → ℕ → ℕ → Bool
linked_by g i j = both (eqb (g i j) 0) (eqb (g j i) 0)

-- "a 32-bit mask of sorted member positions": those linked with i
unfoldable pub component_of : (ℕ → ℕ → ℕ) → ℕ → ℕ → ℕ
component_of g n i = mask_of (linked_by g i) n

-- "refused with 8 exactly if some closed walk of one or more edges has only zero delays"
unfoldable pub cycle_of : (ℕ → ℕ → ℕ) → ℕ → Reason
cycle_of g n = pick (ltb (first_loop g n) n) (zero_cycle (component_of g n (first_loop g n))) accepted

-- the first of n members whose minimum from s is too far, or n
unfoldable pub far_target : (ℕ → ℕ → ℕ) → ℕ → ℕ → ℕ
far_target g n s = first (λ (t : ℕ). eqb (g s t) far) 0 n

-- the first of n members that has one, or n
unfoldable pub far_source : (ℕ → ℕ → ℕ) → ℕ → ℕ
far_source g n = first (λ (s : ℕ). ltb (far_target g n s) n) 0 n

-- "gives ids: first source, its first target"
unfoldable pub far_of : (ℕ → ℕ → ℕ) → List ℕ → ℕ → Reason
far_of g ids n =
    pick (ltb (far_source g n) n) (too_far_from (get_or ids (far_source g n) 0) (get_or ids (far_target g n (far_source g n)) 0)) accepted

-- the first refusal, or else the second
unfoldable pub or_else : Reason → Reason → Reason
or_else a b = pick (eqb a.number 0) b a

-- 8 before 9, of a matrix of minimum delays
unfoldable pub judged : (ℕ → ℕ → ℕ) → List ℕ → ℕ → Reason
judged g ids n = or_else (cycle_of g n) (far_of g ids n)

-- 8 before 9
unfoldable pub refusal_of : Plan → Reason
refusal_of p = judged (minimum_of p) p.ids p.members

-- what the analysis leaves: the refusal, and every byte and word of both matrices
pub record Analysed (p : Plan) (r : Reason) (dk dv mk mv : List ℕ) : Type 0 where
  pub answer : r ≡ refusal_of p
  pub direct : Held dk dv (direct_of p)
  pub minimum : Held mk mv (minimum_of p)

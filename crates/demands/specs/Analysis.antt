-- Demand 2 of a plan: minimum delays over all nonempty paths, zero cycles, and what refusals 8 and 9 say.
-- Assumes nothing.
use Rattle.std.specs.Prelude.{ℕ, ◌<◌, ◌≤◌, ◌/◌, ◌%◌, ◌^◌, ◌≡◌, ◌↔◌, get_or}
use Rattle.plans.specs.declared.Plan.{Plan}
use Rattle.delays.specs.Graph.{far, none, Walk, EdgeOf, direct_of, minimum_of}
use Rattle.delays.specs.Refusals.{refusal_of}

-- v is the least of the sums that W holds of: a number below 2^64, too far, or none
pub record LeastSum (W : ℕ → Type 0) (v : ℕ) : Type 0 where
  pub delay : (d : ℕ) → d < far → (v ≡ d) ↔ (W d × ((e : ℕ) → W e → d ≤ e))
  pub too_far : (v ≡ far) ↔ (((d : ℕ) × W d) × ((e : ℕ) → W e → far ≤ e))
  pub no_way : (v ≡ none) ↔ ((d : ℕ) → W d → ⊥)

-- a walk of one or more edges, with only zero delays
abbrev pub Quick : Plan → ℕ → ℕ → Type 0
Quick p s t = Walk (EdgeOf p) s t 0

-- of the zero-delay edges' strong components with such closed walks, the one with the smallest member, as a mask of positions
pub record Component (p : Plan) (mask : ℕ) : Type 0 where
  pub smallest : ℕ
  pub looped : Quick p smallest smallest
  pub least : (i : ℕ) → Quick p i i → smallest ≤ i
  pub members : (j : ℕ) → (mask / 2 ^ j % 2 ≡ 1) ↔ (Quick p smallest j × Quick p j smallest)

-- 9: a minimum above 2^64-1 (gives ids: first source, its first target)
pub record Apart (p : Plan) (first second : ℕ) : Type 0 where
  pub source : ℕ
  pub target : ℕ
  pub source_in : source < p.members
  pub target_in : target < p.members
  pub source-id : first ≡ get_or p.ids source 0
  pub target-id : second ≡ get_or p.ids target 0
  pub too_far : minimum_of p source target ≡ far
  pub source_first : (s t : ℕ) → s < source → t < p.members → minimum_of p s t ≡ far → ⊥
  pub target_first : (t : ℕ) → t < target → minimum_of p source t ≡ far → ⊥

pub record Analysed (p : Plan) : Type 0 where
  -- Direct delay of a pair: least delay over its edges.
  pub direct : (s t : ℕ) → LeastSum (EdgeOf p s t) (direct_of p s t)
  -- Minimum delay: least sum over all paths of one or more edges.
  pub minimum : (s t : ℕ) → LeastSum (Walk (EdgeOf p) s t) (minimum_of p s t)
  -- refused with 8 exactly if some closed walk of one or more edges has only zero delays
  pub cycle : ((refusal_of p).number ≡ 8) ↔ ((i : ℕ) × Quick p i i)
  pub component : (refusal_of p).number ≡ 8 → Component p (refusal_of p).mask
  -- else with 9 exactly if a minimum is above 2^64-1
  pub apart : ((refusal_of p).number ≡ 9) ↔ (((i : ℕ) → Quick p i i → ⊥) × ((s : ℕ) × (t : ℕ) × (s < p.members) × (t < p.members) × (minimum_of p s t ≡ far)))
  pub ids : (refusal_of p).number ≡ 9 → Apart p (refusal_of p).first (refusal_of p).second

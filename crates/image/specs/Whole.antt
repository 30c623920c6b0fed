-- A plan by value as reading leaves it: its numbers fit their fields, and its unused places are 0.
-- Assumes nothing.
use Rattle.std.specs.Prelude.{◌≡◌, List, ℕ, ◌<◌, ◌≤◌, get_or}
use Rattle.plans.specs.declared.Plan.{Plan}
use Rattle.plans.specs.Values.{Fits}

-- every element fits a u64
pub record Wide (l : List ℕ) : Type 0 where
  pub at : (i : ℕ) → get_or l i 0 < 18446744073709551616

-- 0 from place n on
pub record Unused (l : List ℕ) (n : ℕ) : Type 0 where
  pub at : (i : ℕ) → n ≤ i → get_or l i 0 ≡ 0

pub record Whole (p : Plan) : Type 0 where
  pub fits : Fits p
  pub ids : Wide p.ids
  pub routes : Wide p.routes
  pub delays : Wide p.delays
  pub no-ids : Unused p.ids p.members
  pub no-capacities : Unused p.capacities p.members
  pub no-routes : Unused p.routes p.edges
  pub no-sources : Unused p.sources p.edges
  pub no_targets : Unused p.targets p.edges
  pub no-delays : Unused p.delays p.edges

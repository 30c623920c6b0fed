-- A plan that fits: its counts, its places, and positions that name members.
-- Assumes nothing.
use Rattle.std.specs.Prelude.{ℕ, ◌<◌, ◌≤◌, ◌≡◌, length, get_or}
use Rattle.plans.specs.declared.Plan.{Plan}

pub record Fits (p : Plan) : Type 0 where
  pub few : p.members ≤ 32
  pub routed : p.edges ≤ 256
  pub ids : length p.ids ≡ 32
  pub capacities : length p.capacities ≡ 32
  pub routes : length p.routes ≡ 256
  pub sources : length p.sources ≡ 256
  pub targets : length p.targets ≡ 256
  pub delays : length p.delays ≡ 256
  pub from : (k : ℕ) → k < p.edges → get_or p.sources k 0 < p.members
  pub to : (k : ℕ) → k < p.edges → get_or p.targets k 0 < p.members
  pub small : (i : ℕ) → i < p.members → get_or p.capacities i 0 ≤ 32

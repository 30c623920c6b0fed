-- The lists that the compiled plan holds of each member.
-- Assumes nothing.
use Rattle.std.specs.Prelude.{Bool, List, [], ◌∷◌, ◌++◌, ℕ, zero, suc, ltb, eqb}
use Rattle.basis.specs.Choice.{pick, not, both}
use Rattle.plans.specs.declared.Plan.{Plan}
use Rattle.delays.specs.Graph.{far, direct_of, minimum_of}

-- a source and its delay
pub record Source : Type 0 where
  pub source : ℕ
  pub delay : ℕ

-- the positions below n that pass, ascending
unfoldable pub passing : (ℕ → Bool) → ℕ → List ℕ
passing test zero = []
passing test (suc k) = passing test k ++ pick (test k) (k ∷ []) []

-- the sources below n that have a delay, ascending, with it
unfoldable pub sourced : (ℕ → ℕ) → ℕ → List Source
sourced f zero = []
sourced f (suc k) = sourced f k ++ pick (ltb (f k) far) (record { source = k; delay = f k } ∷ []) []

-- "Direct and transitive lists ascend by source"; they may hold the member itself
unfoldable pub direct_sources : Plan → ℕ → List Source
direct_sources p t = sourced (λ (s : ℕ). direct_of p s t) p.members

unfoldable pub transitive_sources : Plan → ℕ → List Source
transitive_sources p t = sourced (λ (s : ℕ). minimum_of p s t) p.members

-- another member that s reaches
unfoldable pub reached : Plan → ℕ → ℕ → Bool
reached p s t = both (not (eqb t s)) (ltb (minimum_of p s t) far)

-- "downstream lists by target and never hold the member itself"
unfoldable pub downstream : Plan → ℕ → List ℕ
downstream p s = passing (reached p s) p.members

-- A plan built edge by edge.
-- Assumes nothing.
use Rattle.std.specs.Prelude.{ℕ, ◌≡◌}
use Rattle.plans.specs.declared.Plan.{Plan}
use Rattle.plans.specs.Values.{Fits}

-- a plan of n members and m edges that fits
pub record Built (p : Plan) (n m : ℕ) : Type 0 where
  pub fits : Fits p
  pub members : p.members ≡ n
  pub edges : p.edges ≡ m

-- The members and edges that a compiled plan holds, as a plan.
-- Assumes nothing.
use Rattle.std.specs.Prelude.{ℕ, zero, suc, List, [], ◌∷◌, ltb}
use Rattle.basis.specs.Choice.{pick}
use Rattle.plans.specs.declared.Plan.{Plan}
use Rattle.rows.specs.Rows.{members, edges, member_id, capacity, edge_id, edge_source, edge_target, edge_delay}

-- f at k places from i on
unfoldable pub listed : (ℕ → ℕ) → ℕ → ℕ → List ℕ
listed f i zero = []
listed f i (suc k) = f i ∷ listed f (suc i) k

-- the first n of k places by f, the rest 0
unfoldable pub padded : (ℕ → ℕ) → ℕ → ℕ → List ℕ
padded f n k = listed (λ i. pick (ltb i n) (f i) 0) 0 k

unfoldable pub plan_in : List ℕ → Plan
plan_in b =
    record {
      members = members b;
      edges = edges b;
      ids = padded (member_id b) (members b) 32;
      capacities = padded (capacity b) (members b) 32;
      routes = padded (edge_id b) (edges b) 256;
      sources = padded (edge_source b) (edges b) 256;
      targets = padded (edge_target b) (edges b) 256;
      delays = padded (edge_delay b) (edges b) 256;
    }

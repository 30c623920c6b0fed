-- The net that a session reads off compiled bytes says the same as the net of the plan in them, where their rows do.
-- Assumes nothing.
use Prim.Native.Nat.{ℕ, zero, suc, ◌+◌, ◌<◌, ◌≤◌}
use native.Mathlib.Omega.{arith}
use mathlib.Core.Path.{◌≡◌, refl, sym, ap₂}
use mathlib.Core.List.{List, ◌∷◌}
use Rattle.plans.specs.Nets.{Route}
use Rattle.delays.specs.Graph.{direct_of, minimum_of}
use Rattle.rows.specs.Rows.{members, edges, capacity, edge_source, edge_target, edge_delay}
use Rattle.rows.specs.Plans.{plan_in}
use Rattle.rows.specs.Nets.{direct_in, minimum_in, net_in, routes_from as rows_from}
use Rattle.rows.proofs.Plans.{padded-at}
use Rattle.demands.specs.Nets.{routes_from, net_of, Alike}

module _ (b : List ℕ) (few : members b ≤ 32) (routed : edges b ≤ 256) where
  same-routes : (k i : ℕ) → i + k ≤ edges b → rows_from b i k ≡ routes_from (plan_in b) i k
  unfolding rows_from routes_from plan_in
  same-routes zero i l = refl
  same-routes (suc k) i l =
      ap₂ (λ (x : Route) (y : List Route). x ∷ y)
      (rw (padded-at (edge_source b) (edges b) 256 i (omega arith) routed, padded-at (edge_target b) (edges b) 256 i (omega arith) routed, padded-at (edge_delay b) (edges b) 256 i (omega arith) routed))
      (same-routes k (suc i) (omega arith))

  pub alike_in : ((i j : ℕ) → i < members b → j < members b → direct_in b i j ≡ direct_of (plan_in b) i j)
      → ((i j : ℕ) → i < members b → j < members b → minimum_in b i j ≡ minimum_of (plan_in b) i j) → Alike (net_of (plan_in b)) (net_in b)
  unfolding net_in plan_in
  alike_in d m =
      record {
        count = refl;
        capacity = λ i l. sym (padded-at (capacity b) (members b) 32 i l few);
        direct = d;
        minimum = m;
        routes = same-routes (edges b) 0 (omega arith);
      }

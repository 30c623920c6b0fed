-- A compiled plan as a session sees it, read off its rows.
-- Assumes nothing.
use Rattle.std.specs.Prelude.{ℕ, zero, suc, ◌<◌, ◌≡◌, List, [], ◌∷◌, ltb}
use Rattle.plans.specs.Nets.{Net, Route, none, downstream}
use Rattle.rows.specs.Rows.{members, edges, capacity, direct_first, direct_count, transitive_first, transitive_count, downstream_first, downstream_count, edge_source, edge_target, edge_delay, direct_source, direct_delay, transitive_source, transitive_delay, downstream_target}
use Rattle.rows.specs.Loops.{delay_of, Ascends}

-- the routes of k edges from i on
unfoldable pub routes_from : List ℕ → ℕ → ℕ → List Route
routes_from b i zero = []
routes_from b i (suc k) = record { source = edge_source b i; target = edge_target b i; delay = edge_delay b i } ∷ routes_from b (suc i) k

-- direct and minimum delay of i and j: that of the row of target j with source i, else none
unfoldable pub direct_in : List ℕ → ℕ → ℕ → ℕ
direct_in b i j = delay_of (direct_source b) (direct_delay b) (direct_first b j) (direct_count b j) i

unfoldable pub minimum_in : List ℕ → ℕ → ℕ → ℕ
minimum_in b i j = delay_of (transitive_source b) (transitive_delay b) (transitive_first b j) (transitive_count b j) i

unfoldable pub net_in : List ℕ → Net
net_in b =
    record {
      count = members b;
      capacity = capacity b;
      direct = direct_in b;
      minimum = minimum_in b;
      routes = routes_from b 0 (edges b);
    }

-- the rows of each member ascend, and its downstream rows name those downstream of it
pub record Ordered (b : List ℕ) : Type 0 where
  pub directs : (j : ℕ) → j < members b → Ascends (direct_source b) (direct_first b j) (direct_count b j) (members b)
  pub transitives : (j : ℕ) → j < members b → Ascends (transitive_source b) (transitive_first b j) (transitive_count b j) (members b)
  pub downstreams : (i : ℕ) → i < members b → Ascends (downstream_target b) (downstream_first b i) (downstream_count b i) (members b)
  pub below : (i j : ℕ) → i < members b → j < members b
      → downstream (net_in b) i j ≡ ltb (delay_of (downstream_target b) (λ k. 0) (downstream_first b i) (downstream_count b i) j) none

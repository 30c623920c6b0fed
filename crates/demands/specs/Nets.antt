-- The net of a plan: what a session sees of the members and edges that were analysed.
-- Assumes nothing.
use Rattle.std.specs.Prelude.{ℕ, zero, suc, ◌<◌, ◌≡◌, List, [], ◌∷◌, get_or}
use Rattle.plans.specs.declared.Plan.{Plan}
use Rattle.plans.specs.Values.{Fits}
use Rattle.plans.specs.Nets.{Net, Route}
use Rattle.delays.specs.Graph.{far, direct_of, minimum_of}
use Rattle.delays.specs.Refusals.{refusal_of}

-- an edge's position is its route number: the routes of k edges from i on
unfoldable pub routes_from : Plan → ℕ → ℕ → List Route
routes_from p i zero = []
routes_from p i (suc k) = record { source = get_or p.sources i 0; target = get_or p.targets i 0; delay = get_or p.delays i 0 } ∷ routes_from p (suc i) k

abbrev pub net_of : Plan → Net
net_of p =
    record {
      count = p.members;
      capacity = λ i. get_or p.capacities i 0;
      direct = direct_of p;
      minimum = minimum_of p;
      routes = routes_from p 0 p.edges;
    }

-- a plan that is not refused with 8 or 9
pub record Taken (p : Plan) : Type 0 where
  pub fits : Fits p
  pub words : (i : ℕ) → get_or p.delays i 0 < far
  pub sound : (refusal_of p).number ≡ 0

-- two nets that say the same of every member that they have
pub record Alike (p q : Net) : Type 0 where
  pub count : q.count ≡ p.count
  pub capacity : (i : ℕ) → i < p.count → q.capacity i ≡ p.capacity i
  pub direct : (i j : ℕ) → i < p.count → j < p.count → q.direct i j ≡ p.direct i j
  pub minimum : (i j : ℕ) → i < p.count → j < p.count → q.minimum i j ≡ p.minimum i j
  pub routes : q.routes ≡ p.routes

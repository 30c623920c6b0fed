-- The outcome of reading plan bytes.
-- Assumes nothing.
use Rattle.std.specs.Prelude.{ℕ, ◌-◌, List, [], ◌++◌, map, eqb, length, replicate, Result, Ok, Err}
use Rattle.basis.specs.Choice.{pick}
use Rattle.plans.specs.Rows.{member_limit, edge_limit, member_count, edge_count, edges_from, member_at, edge_from}
use Rattle.plans.specs.Numbers.{Reason, no_reason, reason_of}
use Rattle.plans.specs.Refusals.{refusal_of}
use Rattle.plans.specs.Order.{member_before, edge_before, ordered, place}
use Rattle.plans.specs.declared.Member.{Member}
use Rattle.plans.specs.declared.Edge.{Edge}
use Rattle.plans.specs.declared.Plan.{Plan}
use Rattle.plans.specs.declared.Refusal.{Refusal}

-- Members ascending by id: the first n rows
abbrev pub members_to : ℕ → List ℕ → List Member
members_to n b = ordered member_before (member_at b) n

-- edges ascending by id: the first e rows of those that start at a place
abbrev pub edges_to : ℕ → ℕ → List ℕ → List Edge
edges_to at e b = ordered edge_before (edge_from at b) e

-- l, and 0 up to k places
abbrev pub padded : ℕ → List ℕ → List ℕ
padded k l = l ++ replicate (k - length l) 0

abbrev pub ids_of : List Member → List ℕ
ids_of ms = map (λ m. m.id) ms

-- the plan of members and edges in order; an edge's ends are positions of members
unfoldable pub plan_from : ℕ → ℕ → List Member → List Edge → Plan
plan_from n e ms es =
    record {
      members = n;
      edges = e;
      ids = padded member_limit (ids_of ms);
      capacities = padded member_limit (map (λ m. m.capacity) ms);
      routes = padded edge_limit (map (λ x. x.id) es);
      sources = padded edge_limit (map (λ x. place x.source (ids_of ms)) es);
      targets = padded edge_limit (map (λ x. place x.target (ids_of ms)) es);
      delays = padded edge_limit (map (λ x. x.delay) es);
    }

abbrev pub plan_in : ℕ → ℕ → List ℕ → Plan
plan_in n e b = plan_from n e (members_to n b) (edges_to (edges_from n) e b)

abbrev pub plan_of : List ℕ → Plan
plan_of b = plan_in (member_count b) (edge_count b) b

-- the members and the edges of plan bytes, in order
abbrev pub members_of : List ℕ → List Member
members_of b = members_to (member_count b) b

abbrev pub edges_of : List ℕ → List Edge
edges_of b = edges_to (edges_from (member_count b)) (edge_count b) b

abbrev pub blank_plan : Plan
blank_plan = plan_from 0 0 [] []

-- The outcome of reading plan bytes: a refusal, or none and the plan.
pub record Reading : Type 0 where
  pub refusal : Reason
  pub plan : Plan

-- a refusal and a blank plan, or none and the plan
abbrev pub reading : Result Plan Refusal → Reading
reading (Ok p) = record { refusal = no_reason; plan = p }
reading (Err r) = record { refusal = reason_of r; plan = blank_plan }

unfoldable pub reading_of : List ℕ → Reading
reading_of b =
    record {
      refusal = refusal_of b;
      plan = pick (eqb (refusal_of b).number 0) (plan_of b) blank_plan;
    }

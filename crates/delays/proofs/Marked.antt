-- The marked cases, by computation.
-- Assumes nothing.
use mathlib.Core.Path.{◌≡◌, refl}
use mathlib.Core.List.{List, [], ◌∷◌, ◌++◌}
use Prim.Native.Nat.{ℕ, zero, suc, ◌-◌}
use lib.ListN.{length}
use Rattle.plans.specs.declared.Plan.{Plan}
use Rattle.delays.specs.Graph.{plus, next, via, cost, direct, direct_of, minimum_of}
use Rattle.delays.specs.Search.{first, mask_of}
use Rattle.delays.specs.Refusals.{accepted, zero_cycle, too_far_from, first_loop, linked_by, component_of, cycle_of, far_target, far_source, far_of, or_else, judged, refusal_of}

zeros : ℕ → List ℕ
zeros zero = []
zeros (suc k) = 0 ∷ zeros k

-- k places, the rest 0
places : ℕ → List ℕ → List ℕ
places k l = l ++ zeros (k - length l)

-- n members with ids 10, 20, 30, and edges of which m count
plan : ℕ → ℕ → List ℕ → List ℕ → List ℕ → Plan
plan n m src dst delay =
    record {
      members = n;
      edges = m;
      ids = places 32 (10 ∷ 20 ∷ 30 ∷ []);
      capacities = places 32 [];
      routes = places 256 (1 ∷ 2 ∷ 3 ∷ []);
      sources = places 256 src;
      targets = places 256 dst;
      delays = places 256 delay;
    }

-- two edges of 2^63 in a row
pub halves : Plan
halves = plan 3 2 (0 ∷ 1 ∷ []) (1 ∷ 2 ∷ []) (9223372036854775808 ∷ 9223372036854775808 ∷ [])

-- and a direct edge of 2^64-1 beside them
pub beside : Plan
beside = plan 3 3 (0 ∷ 1 ∷ 0 ∷ []) (1 ∷ 2 ∷ 2 ∷ []) (9223372036854775808 ∷ 9223372036854775808 ∷ 18446744073709551615 ∷ [])

-- a direct edge of 9 beside a path of 2 and 3
pub shorter : Plan
shorter = plan 3 3 (0 ∷ 0 ∷ 1 ∷ []) (2 ∷ 1 ∷ 2 ∷ []) (9 ∷ 2 ∷ 3 ∷ [])

-- a zero self-loop
pub self : Plan
self = plan 1 1 (0 ∷ []) (0 ∷ []) (0 ∷ [])

-- a zero cycle of the second and third member
pub pair : Plan
pair = plan 3 3 (0 ∷ 1 ∷ 2 ∷ []) (1 ∷ 2 ∷ 1 ∷ []) (0 ∷ 0 ∷ 0 ∷ [])

pub halves-refused : refusal_of halves ≡ too_far_from 10 30
unfolding zeros places plan halves plus next via cost direct first mask_of first_loop linked_by component_of cycle_of far_target far_source far_of or_else judged refusal_of
halves-refused = refl

pub beside-taken : refusal_of beside ≡ accepted
unfolding zeros places plan beside plus next via cost direct first mask_of first_loop linked_by component_of cycle_of far_target far_source far_of or_else judged refusal_of
beside-taken = refl

pub beside-minimum : minimum_of beside 0 2 ≡ 18446744073709551615
unfolding zeros places plan beside plus next via cost direct
beside-minimum = refl

pub shorter-direct : direct_of shorter 0 2 ≡ 9
unfolding zeros places plan shorter cost direct
shorter-direct = refl

pub shorter-minimum : minimum_of shorter 0 2 ≡ 5
unfolding zeros places plan shorter plus next via cost direct
shorter-minimum = refl

pub shorter-taken : refusal_of shorter ≡ accepted
unfolding zeros places plan shorter plus next via cost direct first mask_of first_loop linked_by component_of cycle_of far_target far_source far_of or_else judged refusal_of
shorter-taken = refl

pub self-refused : refusal_of self ≡ zero_cycle 1
unfolding zeros places plan self plus next via cost direct first mask_of first_loop linked_by component_of cycle_of far_target far_source far_of or_else judged refusal_of
self-refused = refl

pub pair-refused : refusal_of pair ≡ zero_cycle 6
unfolding zeros places plan pair plus next via cost direct first mask_of first_loop linked_by component_of cycle_of far_target far_source far_of or_else judged refusal_of
pair-refused = refl

-- Numbers of refusal, rows 1 to 7.
-- Assumes nothing.
use Rattle.std.specs.Prelude.{ℕ, zero, suc, Bool, false, List, ltb, eqb, length}
use Rattle.basis.specs.Choice.{pick, not, both, either}
use Rattle.plans.specs.Rows.{header, member_limit, edge_limit, capacity_limit, version, member_count, edge_count, member_offset, edge_offset, total, edges_from, end_of, member_at, edge_from, member_id, edge_id}
use Rattle.plans.specs.Numbers.{Reason}

-- Fields a refusal doesn't give are 0.
abbrev pub giving : ℕ → ℕ → ℕ → Reason
giving number first second = record { number = number; mask = 0; first = first; second = second }

abbrev pub bare : ℕ → Reason
bare number = giving number 0 0

abbrev pub none : Reason
none = bare 0

-- first match, in this order
abbrev pub or_else : Reason → Reason → Reason
or_else r s = pick (eqb r.number 0) s r

-- the first refusal of rows 0 to k - 1, in input order
unfoldable pub first_of : (ℕ → Reason) → ℕ → Reason
first_of row zero = none
first_of row (suc k) = or_else (first_of row k) (row k)

-- whether x is one of the ids of rows 0 to k - 1
unfoldable pub among : (ℕ → ℕ) → ℕ → ℕ → Bool
among id zero x = false
among id (suc k) x = either (among id k x) (eqb (id k) x)

-- the offsets, the total and the given length are right
unfoldable pub framed : List ℕ → Bool
framed b =
    both (eqb (member_offset b) header)
    (both (eqb (edge_offset b) (edges_from (member_count b)))
    (both (eqb (total b) (end_of (member_count b) (edge_count b)))
    (eqb (length b) (end_of (member_count b) (edge_count b)))))

-- 1, 4: per member row: zero field not 0; capacity over 32
unfoldable pub member_fault : List ℕ → ℕ → Reason
member_fault b k =
    pick (not (eqb (member_at b k).zero 0)) (bare 1)
    (pick (ltb capacity_limit (member_at b k).capacity) (bare 4)
    none)

-- 5: member id repeats an earlier one (gives id)
unfoldable pub member_repeat : List ℕ → ℕ → Reason
member_repeat b k = pick (among (member_id b) k (member_id b k)) (giving 5 (member_id b k) 0) none

-- 6, 7: per edge: id repeated (gives id); source, then target undeclared (gives edge, member)
unfoldable pub edge_fault : ℕ → ℕ → List ℕ → ℕ → Reason
edge_fault n at b k =
    pick (among (edge_id at b) k (edge_id at b k)) (giving 6 (edge_id at b k) 0)
    (pick (not (among (member_id b) n (edge_from at b k).source)) (giving 7 (edge_id at b k) (edge_from at b k).source)
    (pick (not (among (member_id b) n (edge_from at b k).target)) (giving 7 (edge_id at b k) (edge_from at b k).target)
    none))

-- 1 and 4 over all member rows; then 5 over all member rows; then 6 and 7, edge by edge
unfoldable pub rows_refused : ℕ → ℕ → List ℕ → Reason
rows_refused n e b =
    or_else (first_of (member_fault b) n)
    (or_else (first_of (member_repeat b) n)
    (first_of (edge_fault n (edges_from n) b) e))

-- First match, in this order; rows in input order.
unfoldable pub refusal_of : List ℕ → Reason
refusal_of b =
    -- 1: under 24 bytes, or version not 1
    pick (ltb (length b) header) (bare 1)
    (pick (not (eqb (version b) 1)) (bare 1)
    -- 2, 3: over 32 members; over 256 edges
    (pick (ltb member_limit (member_count b)) (bare 2)
    (pick (ltb edge_limit (edge_count b)) (bare 3)
    -- 1: an offset, the total or the given length is wrong
    (pick (not (framed b)) (bare 1)
    (rows_refused (member_count b) (edge_count b) b)))))

-- What a plan that is not refused is known for.
-- Assumes nothing.
use Prim.Native.Nat.{ℕ, suc, ◌≤◌}
use mathlib.Core.Bool.{Bool, true, false}
use mathlib.Core.Path.{◌≡◌, refl}
use mathlib.Core.List.{List}
use native.Mathlib.Omega.{arith}
use native.Mathlib.Decide.{ℕ_discrete}
use borrow.Author.Tests.{eq-eqb, ne_eqb, ltb-false, not-false}
use lib.Dec.{ltb, eqb}
use lib.ListN.{length}
use Rattle.basis.specs.Choice.{pick, not}
use Rattle.plans.specs.Numbers.{Reason}
use Rattle.plans.specs.Rows.{header, member_limit, edge_limit, version, member_count, edge_count, edges_from, end_of}
use Rattle.plans.specs.Refusals.{giving, or_else, first_of, framed, member_fault, member_repeat, edge_fault, rows_refused, refusal_of}
use Rattle.plans.proofs.Faults.{framed-length}

pub record Accepted (b : List ℕ) : Type 0 where
  pub few : member_count b ≤ 32
  pub routed : edge_count b ≤ 256
  pub whole : length b ≡ end_of (member_count b) (edge_count b)
  pub members : (first_of (member_fault b) (member_count b)).number ≡ 0
  pub repeats : (first_of (member_repeat b) (member_count b)).number ≡ 0
  pub edges : (first_of (edge_fault (member_count b) (edges_from (member_count b)) b) (edge_count b)).number ≡ 0

pub past : (t : Bool) (q x y : ℕ) (r : Reason) → (pick t (giving (suc q) x y) r).number ≡ 0 → (t ≡ false) × (r.number ≡ 0)
past true q x y r e = absurd (omega arith)
past false q x y r e = (refl, e)

pub or_else_lem : (r s : Reason) → (or_else r s).number ≡ 0 → (r.number ≡ 0) × (s.number ≡ 0)
or_else_lem r s e = go (ℕ_discrete r.number 0)
  where
    go : Dec (r.number ≡ 0) → (r.number ≡ 0) × (s.number ≡ 0)
    go (yes z) = (z, rw (eq-eqb r.number 0 z) at e)
    go (no n) = absurd (n (rw (ne_eqb r.number 0 n) at e))

pub accepted : (b : List ℕ) → (refusal_of b).number ≡ 0 → Accepted b
unfolding refusal_of rows_refused
accepted b z =
    let one = past (ltb (length b) header) 0 0 0 _ z in
    let two = past (not (eqb (version b) 1)) 0 0 0 _ one.1 in
    let three = past (ltb member_limit (member_count b)) 1 0 0 _ two.1 in
    let four = past (ltb edge_limit (edge_count b)) 2 0 0 _ three.1 in
    let five = past (not (framed b)) 0 0 0 _ four.1 in
    let six = or_else_lem (first_of (member_fault b) (member_count b)) _ five.1 in
    let seven = or_else_lem (first_of (member_repeat b) (member_count b)) _ six.1 in
    record {
      few = ltb-false member_limit _ three.0;
      routed = ltb-false edge_limit _ four.0;
      whole = framed-length b (not-false _ five.0);
      members = six.0;
      repeats = seven.0;
      edges = seven.1;
    }

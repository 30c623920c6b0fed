-- What no refusal says of every row.
-- Assumes nothing.
use Prim.Native.Nat.{ℕ, zero, suc, ◌<◌, ◌≤◌}
use mathlib.Core.Bool.{Bool, true, false, false≢true}
use mathlib.Core.Path.{◌≡◌, refl, sym, ap, ◌∙◌}
use mathlib.Core.Logic.{⊎_elim}
use mathlib.Core.List.{List}
use native.Mathlib.Nat.{eq-or-lt_of_le, le_of_suc-le-suc}
use native.Mathlib.Decide.{ℕ_discrete}
use native.Mathlib.Omega.{arith}
use borrow.Author.Tests.{ltb-false, ne_eqb, not-false}
use lib.Dec.{ltb, eqb}
use Rattle.basis.specs.Choice.{not, either}
use Rattle.plans.specs.Numbers.{Reason, no_reason}
use Rattle.plans.specs.Rows.{capacity_limit, member_count, edge_count, edges_from, member_at, edge_from, member_id, edge_id, edge_at}
use Rattle.plans.specs.Refusals.{refusal_of, first_of, among, member_fault, member_repeat, edge_fault}
use Rattle.plans.proofs.Scans.{among-met}
use Rattle.plans.proofs.Accepted.{Accepted, accepted, past, or_else_lem}

-- no row has a refusal where the first is none
each : (row : ℕ → Reason) (n k : ℕ) → k < n → (first_of row n).number ≡ 0 → (row k).number ≡ 0
unfolding first_of
each row zero k l z = absurd (omega arith)
each row (suc n) k l z =
    let o = or_else_lem (first_of row n) (row n) z in
    ⊎_elim (λ e. rw e o.1) (λ h. each row n k h o.0) (eq-or-lt_of_le (le_of_suc-le-suc l))

-- an id that is found stands in a row
pub among_true : (id : ℕ → ℕ) (n x : ℕ) → among id n x ≡ true → (j : ℕ) × (j < n) × (id j ≡ x)
unfolding among
among_true id zero x e = absurd (false≢true e)
among_true id (suc n) x e = go (among_true id n x) (ℕ_discrete (id n) x)
  where
    left : (b : Bool) → either b false ≡ true → b ≡ true
    left true h = refl
    left false h = h

    go : (among id n x ≡ true → (j : ℕ) × (j < n) × (id j ≡ x)) → Dec (id n ≡ x) → (j : ℕ) × (j < suc n) × (id j ≡ x)
    go f (yes h) = (n, omega arith, h)
    go f (no h) =
        let r = f (left (among id n x) (rw (ne_eqb (id n) x h) at e)) in
        (r.0, omega (arith, r.1), r.2)

unlike : (id : ℕ → ℕ) (k : ℕ) → among id k (id k) ≡ false → (i : ℕ) → i < k → id i ≡ id k → ⊥
unlike id k e i l q = false≢true (sym e ∙ among-met id k i (id k) l q)

module _ (b : List ℕ) (a : Accepted b) where
  at : ℕ
  at = edges_from (member_count b)

  pub capacity-small : (k : ℕ) → k < member_count b → (member_at b k).capacity ≤ 32
  unfolding member_fault
  capacity-small k l =
      let z = each (member_fault b) (member_count b) k l a.members in
      let o = past (not (eqb (member_at b k).zero 0)) 0 0 0 _ z in
      ltb-false capacity_limit (member_at b k).capacity (past (ltb capacity_limit (member_at b k).capacity) 3 0 0 _ o.1).0

  pub members-apart : (i j : ℕ) → i < j → j < member_count b → (member_at b i).id ≡ (member_at b j).id → ⊥
  unfolding member_repeat
  members-apart i j l h =
      let z = each (member_repeat b) (member_count b) j h a.repeats in
      unlike (member_id b) j (past (among (member_id b) j (member_id b j)) 4 (member_id b j) 0 _ z).0 i l

  fault : (k : ℕ) → k < edge_count b → (edge_fault (member_count b) (edges_from (member_count b)) b k).number ≡ 0
  fault k h = each (edge_fault (member_count b) (edges_from (member_count b)) b) (edge_count b) k h a.edges

  pub edges-apart : (i j : ℕ) → i < j → j < edge_count b → (edge_at b i).id ≡ (edge_at b j).id → ⊥
  unfolding edge_fault at
  edges-apart i j l h = unlike (edge_id at b) j (past (among (edge_id at b) j (edge_id at b j)) 5 (edge_id at b j) 0 _ (fault j h)).0 i l

  pub ends-declared : (k : ℕ) → k < edge_count b
      → (among (member_id b) (member_count b) (edge_at b k).source ≡ true) × (among (member_id b) (member_count b) (edge_at b k).target ≡ true)
  unfolding edge_fault at
  ends-declared k h =
      let x = edge_from at b k in
      let one = past (among (edge_id at b) k (edge_id at b k)) 5 (edge_id at b k) 0 _ (fault k h) in
      let two = past (not (among (member_id b) (member_count b) x.source)) 6 (edge_id at b k) x.source _ one.1 in
      let three = past (not (among (member_id b) (member_count b) x.target)) 6 (edge_id at b k) x.target _ two.1 in
      (not-false _ two.0, not-false _ three.0)

-- what is not refused has distinct ids
pub members-differ : (b : List ℕ) (n : ℕ) → no_reason ≡ refusal_of b → n ≡ member_count b → (i j : ℕ) → i < j → j < n → (member_at b i).id ≡ (member_at b j).id → ⊥
members-differ b n z e i j l h = members-apart b (accepted b (ap (λ (r : Reason). r.number) (sym z))) i j l (omega arith)

pub edges-differ : (b : List ℕ) (n e : ℕ) → no_reason ≡ refusal_of b → n ≡ member_count b → e ≡ edge_count b → (i j : ℕ) → i < j → j < e
    → (edge_from (edges_from n) b i).id ≡ (edge_from (edges_from n) b j).id → ⊥
edges-differ b n e z p q i j l h = rw p (edges-apart b (accepted b (ap (λ (r : Reason). r.number) (sym z))) i j l (omega arith))

pub ruleset differ = (members-differ, edges-differ)

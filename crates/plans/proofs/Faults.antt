-- The first row refused, and the frame.
-- Assumes nothing.
use Prim.Native.Nat.{ℕ, zero, suc, ◌<◌}
use mathlib.Core.Bool.{Bool, true, false, false≢true}
use mathlib.Core.Path.{◌≡◌, refl, sym}
use mathlib.Core.List.{List}
use mathlib.Core.Logic.{⊎_elim}
use native.Mathlib.Nat.{eq-or-lt_of_le, le_of_suc-le-suc}
use native.Mathlib.Omega.{arith}
use borrow.Author.Tests.{eqb-true}
use lib.Dec.{eqb}
use lib.ListN.{length}
use Rattle.basis.specs.Choice.{both}
use Rattle.plans.specs.Numbers.{Reason, reason_of}
use Rattle.plans.specs.declared.Refusal.{Refusal}
use Rattle.plans.specs.declared.Refusal.TheVariants.{Malformed, TooManyMembers, TooManyEdges, Capacity, MemberTwice, EdgeTwice, Undeclared, ZeroCycle, TooFar, TooShort}
use Rattle.plans.proofs.Scans.{first-none, first-pass}
use Rattle.plans.specs.Rows.{header, member_count, edge_count, member_offset, edge_offset, total, edges_from, end_of}
use Rattle.plans.specs.Refusals.{none, or_else, first_of, framed, member_fault, member_repeat, edge_fault, rows_refused}

-- ---- the rows
-- what is refused stays the answer
kept : (r : Refusal) (s : Reason) → or_else (reason_of r) s ≡ reason_of r
kept Malformed s = refl
kept TooManyMembers s = refl
kept TooManyEdges s = refl
kept Capacity s = refl
kept (MemberTwice id) s = refl
kept (EdgeTwice id) s = refl
kept (Undeclared edge member) s = refl
kept (ZeroCycle mask) s = refl
kept (TooFar source target) s = refl
kept TooShort s = refl

-- the first row refused answers for every count past it
first-met : (row : ℕ → Reason) (n k : ℕ) (r : Refusal) → k < n → first_of row k ≡ none → reason_of r ≡ row k → first_of row n ≡ reason_of r
unfolding first_of
first-met row zero k r l e q = absurd (omega arith)
first-met row (suc n) k r l e q =
    ⊎_elim
    (λ p. rw (← p) (simp (e, ← q)))
    (λ m. let i = first-met row n k r m e q in rw i (kept r (row n)))
    (eq-or-lt_of_le (le_of_suc-le-suc l))

module _ (n e : ℕ) (b : List ℕ) (r : Refusal) (k : ℕ) where
  pub rows-fault : k < n → first_of (member_fault b) k ≡ none → reason_of r ≡ member_fault b k → reason_of r ≡ rows_refused n e b
  unfolding rows_refused
  rows-fault l z q = rw (first-met (member_fault b) n k r l z q) (sym (kept r _))

  pub rows-repeat : first_of (member_fault b) n ≡ none → k < n → first_of (member_repeat b) k ≡ none → reason_of r ≡ member_repeat b k → reason_of r ≡ rows_refused n e b
  unfolding rows_refused
  rows-repeat f l z q = rw (f, first-met (member_repeat b) n k r l z q) (sym (kept r _))

  pub rows-edges : first_of (member_fault b) n ≡ none → first_of (member_repeat b) n ≡ none → k < e → first_of (edge_fault n (edges_from n) b) k ≡ none
      → reason_of r ≡ edge_fault n (edges_from n) b k → reason_of r ≡ rows_refused n e b
  unfolding rows_refused
  rows-edges f g l z q = rw (f, g, first-met (edge_fault n (edges_from n) b) e k r l z q) refl

pub rows-none : (n e : ℕ) (b : List ℕ) → first_of (member_fault b) n ≡ none → first_of (member_repeat b) n ≡ none → first_of (edge_fault n (edges_from n) b) e ≡ none
    → none ≡ rows_refused n e b
unfolding rows_refused
rows-none n e b f g h = rw (f, g, h) refl

-- ---- the frame
both-second : (x y : Bool) → both x y ≡ true → y ≡ true
both-second true y e = e
both-second false y e = absurd (false≢true e)

-- the given length is that of the counts
pub framed-length : (b : List ℕ) → framed b ≡ true → length b ≡ end_of (member_count b) (edge_count b)
unfolding framed
framed-length b f =
    let n = member_count b in
    let e = edge_count b in
    let fit = eqb (length b) (end_of n e) in
    let whole = both (eqb (total b) (end_of n e)) fit in
    eqb-true _ _
    (both-second (eqb (total b) (end_of n e)) fit
    (both-second (eqb (edge_offset b) (edges_from n)) whole
    (both-second (eqb (member_offset b) header) (both (eqb (edge_offset b) (edges_from n)) whole) f)))

pub ruleset row_faults = (first-none, first-pass, rows-fault, rows-repeat, rows-edges, rows-none)

pub ruleset counts = (framed-length)

-- Looking through rows from the front.
-- Assumes nothing.
use Prim.Native.Nat.{ℕ, zero, suc, ◌+◌, ◌<◌}
use mathlib.Core.Bool.{Bool, true, false}
use mathlib.Core.Path.{◌≡◌, refl, sym, ap, ◌∙◌}
use native.Mathlib.Nat.{add-zero, zero-add}
use Rattle.std.proofs.Common.{◌||◌}
use Rattle.std.specs.List.{range_with_len, list_any}
use Rattle.std.proofs.lemmas.List.Folds.{list_any-append}
use mathlib.Core.List.{List, [], ◌∷◌, ◌++◌}
use native.Mathlib.Numerals.{add-one}
use native.Mathlib.Nat.{eq-or-lt_of_le, le_of_suc-le-suc}
use native.Mathlib.Omega.{arith}
use mathlib.Core.Logic.{⊎_elim}
use borrow.Author.Tests.{eq-eqb, ne_eqb}
use native.Mathlib.Decide.{ℕ_discrete}
use lib.Dec.{ltb, eqb}
use lib.ListN.{length}
use Rattle.basis.specs.Choice.{pick, not, either}
use Rattle.plans.specs.Numbers.{Reason}
use Rattle.plans.specs.Rows.{header, member_limit, edge_limit, capacity_limit, version, member_count, edge_count, edges_from, member_at, edge_from, member_id, edge_id}
use Rattle.plans.specs.Refusals.{giving, none, or_else, first_of, among, framed, member_fault, member_repeat, edge_fault, rows_refused, refusal_of}

-- ---- among
either-right : (b : Bool) → either b true ≡ true
either-right true = refl
either-right false = refl

-- a row that has x answers for every count past it
pub among-met : (id : ℕ → ℕ) (k j x : ℕ) → j < k → id j ≡ x → among id k x ≡ true
unfolding among
among-met id zero j x l e = absurd (omega arith)
among-met id (suc k) j x l e =
    ⊎_elim
    (λ q. simp (eq-eqb (id k) x (rw (← q) e), either-right))
    (λ h. simp (among-met id k j x h e))
    (eq-or-lt_of_le (le_of_suc-le-suc l))

-- a look through the rows from the front
range-more : (a n : ℕ) → range_with_len a (suc n) ≡ range_with_len a n ++ (a + n) ∷ []
range-more a zero = ap (λ (k : ℕ). k ∷ []) (sym (add-zero a))
range-more a (suc n) = ap (λ (l : List ℕ). a ∷ l) (range-more (a + 1) n ∙ ap (λ (k : ℕ). range_with_len (a + 1) n ++ k ∷ []) (omega arith))

pub among-listed : (id : ℕ → ℕ) (k x : ℕ) → list_any (λ j. eqb (id j) x) (range_with_len 0 k) ≡ among id k x
unfolding among
among-listed id zero x = refl
among-listed id (suc k) x =
    ap (list_any (λ j. eqb (id j) x)) (range-more 0 k ∙ ap (λ (j : ℕ). range_with_len 0 k ++ j ∷ []) (zero-add k))
    ∙ list_any-append (λ j. eqb (id j) x) (range_with_len 0 k) (k ∷ [])
    ∙ ap (λ (b : Bool). b || (eqb (id k) x || false)) (among-listed id k x)
    ∙ either-or (among id k x) (eqb (id k) x)
  where
    either-or : (a b : Bool) → (a || (b || false)) ≡ either a b
    either-or true b = refl
    either-or false true = refl
    either-or false false = refl

-- ---- the first refusal
-- number 0 gives nothing
pub record Clean (r : Reason) : Type 0 where
  pub clean : r.number ≡ 0 → r ≡ none

pub clean-none : Clean none
clean-none = record { clean = λ e. refl }

pub clean-pick : (b : Bool) (q x y : ℕ) (r : Reason) → Clean r → Clean (pick b (giving (suc q) x y) r)
clean-pick true q x y r c = record { clean = λ e. absurd (omega arith) }
clean-pick false q x y r c = c

pub clean-member : (b : List ℕ) (k : ℕ) → Clean (member_fault b k)
unfolding member_fault
clean-member b k =
    clean-pick (not (eqb (member_at b k).zero 0)) 0 0 0 _ (clean-pick (ltb capacity_limit (member_at b k).capacity) 3 0 0 none clean-none)

pub clean-repeat : (b : List ℕ) (k : ℕ) → Clean (member_repeat b k)
unfolding member_repeat
clean-repeat b k = clean-pick (among (member_id b) k (member_id b k)) 4 (member_id b k) 0 none clean-none

pub clean-edge : (n at : ℕ) (b : List ℕ) (k : ℕ) → Clean (edge_fault n at b k)
unfolding edge_fault
clean-edge n at b k =
    clean-pick (among (edge_id at b) k (edge_id at b k)) 5 (edge_id at b k) 0 _
    (clean-pick (not (among (member_id b) n (edge_from at b k).source)) 6 (edge_id at b k) (edge_from at b k).source _
    (clean-pick (not (among (member_id b) n (edge_from at b k).target)) 6 (edge_id at b k) (edge_from at b k).target none clean-none))

pub first-none : (row : ℕ → Reason) → first_of row 0 ≡ none
unfolding first_of
first-none row = refl

pub first-pass : (row : ℕ → Reason) (k : ℕ) → first_of row k ≡ none → row k ≡ none → first_of row (k + 1) ≡ none
unfolding first_of
first-pass row k e z = rw add-one (simp (e, z))

clean-or : (r s : Reason) → Clean r → Clean s → Clean (or_else r s)
clean-or r s c d = go (ℕ_discrete r.number 0)
  where
    go : Dec (r.number ≡ 0) → Clean (pick (eqb r.number 0) s r)
    go (yes z) = rw (eq-eqb r.number 0 z) d
    go (no n) = rw (ne_eqb r.number 0 n) c

clean-first : (row : ℕ → Reason) → ((k : ℕ) → Clean (row k)) → (n : ℕ) → Clean (first_of row n)
unfolding first_of
clean-first row c zero = clean-none
clean-first row c (suc n) = clean-or (first_of row n) (row n) (clean-first row c n) (c n)

-- number 0 gives nothing, whatever the bytes
pub clean_all : (b : List ℕ) → Clean (refusal_of b)
unfolding refusal_of rows_refused
clean_all b =
    clean-pick (ltb (length b) header) 0 0 0 _
    (clean-pick (not (eqb (version b) 1)) 0 0 0 _
    (clean-pick (ltb member_limit (member_count b)) 1 0 0 _
    (clean-pick (ltb edge_limit (edge_count b)) 2 0 0 _
    (clean-pick (not (framed b)) 0 0 0 _
    (clean-or (first_of (member_fault b) (member_count b)) _ (clean-first (member_fault b) (clean-member b) (member_count b))
    (clean-or (first_of (member_repeat b) (member_count b)) _ (clean-first (member_repeat b) (clean-repeat b) (member_count b))
    (clean-first (edge_fault (member_count b) (edges_from (member_count b)) b) (clean-edge (member_count b) (edges_from (member_count b)) b) (edge_count b))))))))

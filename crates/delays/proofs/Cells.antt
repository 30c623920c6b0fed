-- Laws of the cells: what a kind byte and a word say, and what a store leaves.
-- Assumes nothing.
use mathlib.Core.Bool.{true, false}
use mathlib.Core.Path.{◌≡◌, refl, sym, subst, ◌∙◌}
use mathlib.Core.Logic.{⊎_elim}
use mathlib.Core.List.{List}
use Prim.Native.Nat.{ℕ, ◌+◌, ◌*◌, ◌/◌, ◌%◌, ◌<◌, ◌≤◌, min, max}
use native.Mathlib.Nat.{eq-or-lt_of_le}
use native.Mathlib.Decide.{ℕ_discrete}
use lib.Dec.{eqb, ltb, leb}
use lib.ListN.{get_or, set, length, replicate}
use Rattle.std.proofs.lemmas.List.{get_or-replicate}
use lib.Seq.{get_or-set_same, get_or-set_other, ext_get_or}
use native.Mathlib.Omega.{arith}
use borrow.Author.Tests.{eq-eqb, ne_eqb, lt-ltb, le-ltb, le-leb, lt-leb}
use Rattle.basis.specs.Choice.{pick}
use Rattle.delays.specs.Graph.{far, none, plus, reach_of}
use Rattle.delays.specs.declared.Reach.{Reach}
use Rattle.delays.specs.Cells.{cell, dist_of, kind_of, word_of, Plain, Tidy, entry, grid, Holds, Held, Offered, Cleared}
use Rattle.delays.proofs.Walks.{le-or-lt, of-near, of-far, of_none, Size, near, just, past, size}
use Rattle.delays.specs.declared.Reach.TheVariants.{At, TooFar, None}

pub cell_at : (k v : ℕ) → k ≡ 0 → v < far → cell k v ≡ v
unfolding cell
cell_at k v p h = simp (eq-eqb k 0 p) (omega arith)

pub cell-far : (k v : ℕ) → k ≡ 1 → cell k v ≡ far
unfolding cell
cell-far k v p = simp (ne_eqb k 0 (omega arith), eq-eqb k 1 p)

pub cell-none : (k v : ℕ) → 1 < k → cell k v ≡ none
unfolding cell
cell-none k v p = simp (ne_eqb k 0 (omega arith), ne_eqb k 1 (omega arith))

-- the cell by its kind, with no bound on the word
pub cell_cut : (k v : ℕ) → k ≡ 0 → cell k v ≡ min v far
unfolding cell
cell_cut k v p = simp (eq-eqb k 0 p)

pub data Kind (k v : ℕ) : Type 0 where
  is_at : k ≡ 0 → cell k v ≡ min v far → Kind k v
  is-far : k ≡ 1 → cell k v ≡ far → Kind k v
  is_none : 1 < k → cell k v ≡ none → Kind k v

pub kind : (k v : ℕ) → Kind k v
kind k v = ⊎_elim
    (λ h. ⊎_elim (λ e. is-far e (cell-far k v e)) (λ l. is_at (omega arith) (cell_cut k v (omega arith))) (eq-or-lt_of_le h))
    (λ l. is_none l (cell-none k v l))
    (le-or-lt k 1)

pub cell-top : (k v : ℕ) → cell k v ≤ none
cell-top k v = go (kind k v)
  where
    go : Kind k v → cell k v ≤ none
    go (is_at p e) = omega arith
    go (is-far p e) = omega arith
    go (is_none p e) = omega arith

-- with a leg that has no delay, the farther leg is the sum
pub dist-top : (a : Reach) → dist_of a ≤ none
dist-top (At v) = omega arith
dist-top TooFar = omega arith
dist-top None = omega arith

pub sum-left : (a b : Reach) → ((x : ℕ) → a ≡ At x → ⊥) → max (dist_of a) (dist_of b) ≡ plus (dist_of a) (dist_of b)
unfolding plus
sum-left (At v) b n = absurd (n v refl)
sum-left TooFar b n = omega (arith, dist-top b)
sum-left None b n = omega (arith, dist-top b)

pub sum-right : (a b : Reach) → ((x : ℕ) → b ≡ At x → ⊥) → max (dist_of a) (dist_of b) ≡ plus (dist_of a) (dist_of b)
unfolding plus
sum-right a (At v) n = absurd (n v refl)
sum-right a TooFar n = omega (arith, dist-top a)
sum-right a None n = omega (arith, dist-top a)

pub plain_word : (v : ℕ) → v < far → Plain 0 v
plain_word v l = record { kind = omega arith; word = λ h. absurd (omega arith); small = l }

pub plain-far : Plain 1 0
plain-far = record { kind = omega arith; word = λ h. refl; small = omega arith }

pub plain-none : Plain 2 0
plain-none = record { kind = omega arith; word = λ h. refl; small = omega arith }

plain_of : (v : ℕ) → Plain (kind_of v) (word_of v)
unfolding kind_of word_of
plain_of v = go (size v)
  where
    go : Size v → Plain (pick (ltb v far) 0 (pick (leb v far) 1 2)) (pick (ltb v far) v 0)
    go (near h) = simp (lt-ltb v far h) (plain_word v h)
    go (just h) = simp (le-ltb v far (omega arith), le-leb v far (omega arith)) plain-far
    go (past h) = simp (le-ltb v far (omega arith), lt-leb v far (omega arith)) plain-none

-- a store at p of a plain cell keeps a tidy matrix tidy
pub tidied : (ks vs : List ℕ) (p k v : ℕ) → p < length ks → p < length vs → (Tidy ks vs → Plain k v) → Tidy ks vs → Tidy (set ks p k) (set vs p v)
tidied ks vs p k v hk hv new T = record { at = λ q l. at q l (ℕ_discrete q p) }
  where
    at : (q : ℕ) → q < 1024 → Dec (q ≡ p) → Plain (get_or (set ks p k) q 0) (get_or (set vs p v) q 0)
    at q l (yes e) = rw e (rw (get_or-set_same ks p k 0 hk, get_or-set_same vs p v 0 hv) (new T))
    at q l (no n) = rw (get_or-set_other ks p q k 0 n, get_or-set_other vs p q v 0 n) (T.at q l)

-- a store at p, as a number is written, of one that is no more than the entry there
pub put : (ks vs ks' vs' : List ℕ) (p m : ℕ) → p < length ks → p < length vs
    → ks' ≡ set ks p (kind_of m) → vs' ≡ set vs p (word_of m) → entry ks' vs' p ≡ m → m ≤ entry ks vs p
    → Offered ks vs ks' vs' p m
put ks vs ks' vs' p m hk hv k v w e =
    record {
      here = w ∙ omega arith;
      there = λ q n. rw (k, v, get_or-set_other ks p q (kind_of m) 0 n, get_or-set_other vs p q (word_of m) 0 n) refl;
      tidy = λ T. rw (k, v) (tidied ks vs p (kind_of m) (word_of m) hk hv (λ _. plain_of m) T);
    }

pub cleared_of : (ks vs : List ℕ) → ks ≡ replicate 1024 2 → vs ≡ replicate 1024 0 → Cleared ks vs 1024
cleared_of ks vs e f = rw (e, f) (record {
  done = λ q h. rw (get_or-replicate {A = ℕ} 1024 q 2 0 h, get_or-replicate {A = ℕ} 1024 q 0 0 h) (cell-none 2 0 (omega arith));
  plain = λ q h. rw (get_or-replicate {A = ℕ} 1024 q 2 0 h, get_or-replicate {A = ℕ} 1024 q 0 0 h) plain-none;
})

-- whether a number is 0, by its view
pub zero-near : (v d : ℕ) → reach_of v ≡ At d → eqb d 0 ≡ eqb v 0
zero-near v d q = go (size v)
  where
    go : Size v → eqb d 0 ≡ eqb v 0
    go (near h) = let e : d ≡ v = cc (of-near v h) in rw e refl
    go (just h) = let z : ◌≡◌ {A = ℕ} 0 1 = cc (of-far v h) in absurd (omega arith)
    go (past h) = let z : ◌≡◌ {A = ℕ} 0 1 = cc (of_none v h) in absurd (omega arith)

pub zero-not : (v : ℕ) → ((d : ℕ) → reach_of v ≡ At d → ⊥) → false ≡ eqb v 0
zero-not v n = sym (ne_eqb v 0 (λ e. n v (of-near v (omega arith))))

-- whether a number is too far, by its view
pub far-seen : (v : ℕ) → reach_of v ≡ TooFar → true ≡ eqb v far
far-seen v q = go (size v)
  where
    go : Size v → true ≡ eqb v far
    go (near h) = let z : ◌≡◌ {A = ℕ} 0 1 = cc (of-near v h) in absurd (omega arith)
    go (just h) = sym (eq-eqb v far h)
    go (past h) = let z : ◌≡◌ {A = ℕ} 0 1 = cc (of_none v h) in absurd (omega arith)

pub far-not : (v : ℕ) → (reach_of v ≡ TooFar → ⊥) → false ≡ eqb v far
far-not v n = sym (ne_eqb v far (λ e. n (of-far v e)))

-- the view of a cell, by its kind
pub reach-at : (k v : ℕ) → k ≡ 0 → v < far → At v ≡ reach_of (cell k v)
reach-at k v p h = let e : cell k v ≡ v = cell_at k v p h in rw e (sym (of-near v h))

pub reach_far : (k v : ℕ) → k ≡ 1 → TooFar ≡ reach_of (cell k v)
reach_far k v p = sym (of-far (cell k v) (cell-far k v p))

pub reach-none : (k v : ℕ) → 1 < k → None ≡ reach_of (cell k v)
reach-none k v p = sym (of_none (cell k v) (omega (arith, cell-none k v p)))

-- a plain cell is written as its number is
pub kind-of : (k v x : ℕ) → v < far → Plain k v → cell k v ≡ x → k ≡ kind_of x
unfolding kind_of
kind-of k v x h P e = go (kind k v)
  where
    go : Kind k v → k ≡ pick (ltb x far) 0 (pick (leb x far) 1 2)
    go (is_at p f) = simp (lt-ltb x far (omega arith)) (omega arith)
    go (is-far p f) = simp (le-ltb x far (omega arith), le-leb x far (omega arith)) (omega arith)
    go (is_none p f) = simp (le-ltb x far (omega arith), lt-leb x far (omega arith)) (omega (arith, P.kind))

pub word-of : (k v x : ℕ) → v < far → Plain k v → cell k v ≡ x → v ≡ word_of x
unfolding word_of
word-of k v x h P e = go (kind k v)
  where
    go : Kind k v → v ≡ pick (ltb x far) x 0
    go (is_at p f) = simp (lt-ltb x far (omega arith)) (omega arith)
    go (is-far p f) = simp (le-ltb x far (omega arith)) (P.word (omega arith))
    go (is_none p f) = simp (le-ltb x far (omega arith)) (P.word (omega arith))

-- a tidy matrix that holds g is written as g says
pub held_of : (ks vs : List ℕ) (g : ℕ → ℕ → ℕ) → Tidy ks vs → Holds ks vs g → Held ks vs g
unfolding grid
held_of ks vs g T H =
    record {
      at = H.at;
      kinds = λ s t a b. let P = T.at (s * 32 + t) (omega arith) in kind-of _ _ (g s t) P.small P (H.at s t a b);
      words = λ s t a b. let P = T.at (s * 32 + t) (omega arith) in word-of _ _ (g s t) P.small P (H.at s t a b);
    }

pub holds_of : {ks vs : List ℕ} {g : ℕ → ℕ → ℕ} → Held ks vs g → Holds ks vs g
holds_of H = record { at = H.at }

-- how a view's number is written
pub kind-near : (v : ℕ) → v < far → 0 ≡ kind_of (min v far)
unfolding kind_of
kind-near v h = let e : min v far ≡ v = omega arith in rw (e, lt-ltb v far h) refl

pub kind-far : 1 ≡ kind_of far
unfolding kind_of
kind-far = refl

pub kind-none : 2 ≡ kind_of none
unfolding kind_of
kind-none = refl

pub word-near : (v : ℕ) → v < far → v ≡ word_of (min v far)
unfolding word_of
word-near v h = let e : min v far ≡ v = omega arith in rw (e, lt-ltb v far h) refl

pub word-far : 0 ≡ word_of far
unfolding word_of
word-far = refl

pub word-none : 0 ≡ word_of none
unfolding word_of
word-none = refl

pub tidy_of : (ks vs : List ℕ) (g : ℕ → ℕ → ℕ) → Held ks vs g → Tidy ks vs
tidy_of ks vs g H = record { at = at }
  where
    at : (q : ℕ) → q < 1024 → Plain (get_or ks q 0) (get_or vs q 0)
    at q l =
        let e : q / 32 * 32 + q % 32 ≡ q = omega arith in
        let k = H.kinds (q / 32) (q % 32) (omega arith) (omega arith) in
        let w = H.words (q / 32) (q % 32) (omega arith) (omega arith) in
        subst (λ (x : ℕ). Plain (get_or ks x 0) (get_or vs x 0)) e (rw (k, w) (plain_of (g (q / 32) (q % 32))))

-- two pairs of 1024 that hold one matrix are the same
pub held-once : (g : ℕ → ℕ → ℕ) (ks vs ks' vs' : List ℕ) → length ks ≡ 1024 → length ks' ≡ 1024 → length vs ≡ 1024 → length vs' ≡ 1024
    → Held ks vs g → Held ks' vs' g → (ks ≡ ks') × (vs ≡ vs')
held-once g ks vs ks' vs' a a' b b' H H' = (ext_get_or 0 ks ks' (omega arith) kinds, ext_get_or 0 vs vs' (omega arith) words)
  where
    place : (q : ℕ) → q / 32 * 32 + q % 32 ≡ q
    place q = omega arith

    kinds : (q : ℕ) → q < length ks → get_or ks q 0 ≡ get_or ks' q 0
    kinds q l = rw (← place q) (H.kinds (q / 32) (q % 32) (omega arith) (omega arith) ∙ sym (H'.kinds (q / 32) (q % 32) (omega arith) (omega arith)))

    words : (q : ℕ) → q < length vs → get_or vs q 0 ≡ get_or vs' q 0
    words q l = rw (← place q) (H.words (q / 32) (q % 32) (omega arith) (omega arith) ∙ sym (H'.words (q / 32) (q % 32) (omega arith) (omega arith)))

-- Rounds in place: what a turn keeps, what the rounds give, and what the edges give.
-- Assumes nothing.
use mathlib.Core.Path.{◌≡◌, refl, sym, ap₂, ◌∙◌}
use mathlib.Core.Logic.{◌≢◌, ◌⊎◌, ⊎_elim, inl, inr}
use mathlib.Core.List.{List}
use Prim.Native.Nat.{ℕ, zero, suc, ◌+◌, ◌*◌, ◌<◌, ◌≤◌, min}
use native.Mathlib.Omega.{arith}
use native.Mathlib.Numerals.{add-one}
use native.Mathlib.Nat.{eq-or-lt_of_le}
use native.Mathlib.Decide.{ℕ_discrete}
use borrow.Author.Tests.{eq-eqb, ne_eqb}
use lib.ListN.{get_or}
use Rattle.delays.specs.Graph.{none, plus, next, via, cost, direct}
use Rattle.delays.specs.Cells.{entry, grid, Rowed, Rounded, Closed, Holds, Cleared, Offered, Spread}
use Rattle.delays.proofs.Walks.{le-or-lt}
use Rattle.delays.proofs.Cells.{cell-top}

pub grid-top : (ks vs : List ℕ) (s t : ℕ) → grid ks vs s t ≤ none
unfolding grid
grid-top ks vs s t = cell-top _ _

module _ (ks vs : List ℕ) (k : ℕ) where
  -- with no path to k, a row is as it was
  pub row-still : (s t : ℕ) → grid ks vs s k ≡ none → Rowed ks vs ks vs k s t
  unfolding next plus
  row-still s t e =
      record { done = λ j h. omega (arith, e, grid-top ks vs s j); rest = λ q h. refl; tidy = λ T. T }

  -- a round leaves its own row
  next_row : (t : ℕ) → next (grid ks vs) k k t ≡ grid ks vs k t
  unfolding next plus
  next_row t = omega arith

  -- a row, entry by entry
  pub row-none : (s : ℕ) → Rowed ks vs ks vs k s 0
  row-none s = record { done = λ j h. absurd (omega arith); rest = λ q h. refl; tidy = λ T. T }

  module _ (ks₁ vs₁ : List ℕ) (s t : ℕ) (R : Rowed ks vs ks₁ vs₁ k s t) (tt : t < 32) where
    leg-on : entry ks₁ vs₁ (k * 32 + t) ≡ grid ks vs k t
    unfolding grid
    leg-on = ⊎_elim (λ h. R.rest (k * 32 + t) (inr (omega arith))) (λ h. R.rest (k * 32 + t) (inl (omega arith))) (le-or-lt s k)

    pub row_more : (ks₂ vs₂ : List ℕ) (d x y : ℕ) → d ≡ plus x y → x ≡ grid ks vs s k → y ≡ entry ks₁ vs₁ (k * 32 + t)
        → Offered ks₁ vs₁ ks₂ vs₂ (s * 32 + t) d → Rowed ks vs ks₂ vs₂ k s (t + 1)
    unfolding next grid
    row_more ks₂ vs₂ d x y e way on X = record { done = λ j h. done j (eq-or-lt_of_le (omega arith)); rest = rest; tidy = λ T. X.tidy (R.tidy T) }
      where
        done : (j : ℕ) → (j ≡ t) ⊎ (j < t) → grid ks₂ vs₂ s j ≡ next (grid ks vs) k s j
        done j (inl i) = rw i (X.here ∙ ap₂ min (R.rest (s * 32 + t) (inr (omega arith))) (e ∙ ap₂ plus way (on ∙ leg-on)))
        done j (inr l) = X.there (s * 32 + j) (omega arith) ∙ R.done j l

        rest : (q : ℕ) → (q < s * 32) ⊎ (s * 32 + (t + 1) ≤ q) → entry ks₂ vs₂ q ≡ entry ks vs q
        rest q (inl h) = X.there q (omega arith) ∙ R.rest q (inl h)
        rest q (inr h) = X.there q (omega arith) ∙ R.rest q (inr (omega arith))

  -- a round, row by row
  pub none_yet : (n : ℕ) → Rounded ks vs ks vs k n 0
  none_yet n = record { done = λ i j h l. absurd (omega arith); rest = λ i j b h. refl; tidy = λ T. T }

  module _ (ks₁ vs₁ : List ℕ) (n s : ℕ) (R : Rounded ks vs ks₁ vs₁ k n s) (few : n ≤ 32) (kk : k < n) where
    own : (j : ℕ) → j < n → grid ks₁ vs₁ k j ≡ grid ks vs k j
    own j l = ⊎_elim (λ h. R.rest k j (omega arith) (inl h)) (λ h. R.done k j h l ∙ next_row j) (le-or-lt s k)

    pub turn : (ks₂ vs₂ : List ℕ) → Rowed ks₁ vs₁ ks₂ vs₂ k s n → Rounded ks vs ks₂ vs₂ k n (s + 1)
    unfolding next grid
    turn ks₂ vs₂ X =
        record { done = λ i j h l. done i j (eq-or-lt_of_le (omega arith)) l; rest = rest; tidy = λ T. X.tidy (R.tidy T) }
      where
        done : (i j : ℕ) → (i ≡ s) ⊎ (i < s) → j < n → grid ks₂ vs₂ i j ≡ next (grid ks vs) k i j
        done i j (inl e) l =
            rw e
            (X.done j l
            ∙ ap₂ min (R.rest s j (omega arith) (inl (omega arith)))
            (ap₂ plus (R.rest s k (omega arith) (inl (omega arith))) (own j l)))
        done i j (inr h) l = X.rest (i * 32 + j) (inl (omega arith)) ∙ R.done i j h l

        rest : (i j : ℕ) → j < 32 → (s + 1 ≤ i) ⊎ (n ≤ j) → grid ks₂ vs₂ i j ≡ grid ks vs i j
        rest i j b (inl h) = X.rest (i * 32 + j) (inr (omega arith)) ∙ R.rest i j b (inl (omega arith))
        rest i j b (inr h) = ⊎_elim
            (λ l. X.rest (i * 32 + j) (inr (omega arith)) ∙ R.rest i j b (inr h))
            (λ l. X.rest (i * 32 + j) (inl (omega arith)) ∙ R.rest i j b (inr h))
            (le-or-lt s i)

-- the rounds, one by one
pub holds-none : (ks vs : List ℕ) (n : ℕ) → Closed ks vs ks vs n 0
unfolding via
holds-none ks vs n = record { done = λ i j a b. refl; rest = λ i j b h. refl; tidy = λ T. T }

pub holds_more : (ks vs ks₁ vs₁ ks₂ vs₂ : List ℕ) (n k : ℕ) → k < n → Closed ks vs ks₁ vs₁ n k → Rounded ks₁ vs₁ ks₂ vs₂ k n n → Closed ks vs ks₂ vs₂ n (k + 1)
unfolding via next
holds_more ks vs ks₁ vs₁ ks₂ vs₂ n k kk H R =
    record {
      done = λ i j a b. rw add-one (R.done i j a b ∙ ap₂ min (H.done i j a b) (ap₂ plus (H.done i k a kk) (H.done k j kk b)));
      rest = λ i j b h. R.rest i j b h ∙ H.rest i j b h;
      tidy = λ T. R.tidy (H.tidy T);
    }

-- the edges
module _ (src dst delay : List ℕ) where
  data Cost (i s t : ℕ) : Type 0 where
    hits : get_or src i 0 ≡ s → get_or dst i 0 ≡ t → cost src dst delay i s t ≡ get_or delay i 0 → Cost i s t
    misses : (get_or src i 0 ≡ s → get_or dst i 0 ≡ t → ⊥) → cost src dst delay i s t ≡ none → Cost i s t

  costs : (i s t : ℕ) → Cost i s t
  unfolding cost
  costs i s t = go (ℕ_discrete (get_or src i 0) s) (ℕ_discrete (get_or dst i 0) t)
    where
      go : Dec (get_or src i 0 ≡ s) → Dec (get_or dst i 0 ≡ t) → Cost i s t
      go (yes p) (yes q) = hits p q (simp (eq-eqb (get_or src i 0) s p, eq-eqb (get_or dst i 0) t q))
      go (yes p) (no q) = misses (λ _ e. q e) (simp (eq-eqb (get_or src i 0) s p, ne_eqb (get_or dst i 0) t q))
      go (no p) q = misses (λ e _. p e) (simp (ne_eqb (get_or src i 0) s p))

  pub edges_none : (ks vs : List ℕ) → Cleared ks vs 1024 → Spread src dst delay 0 ks vs
  unfolding direct grid
  edges_none ks vs C =
      record {
        held = record { at = λ s t a b. C.done (s * 32 + t) (omega arith) };
        tidy = record { at = C.plain };
      }

  pub edges_more : (ks vs ks' vs' : List ℕ) (i : ℕ) → get_or dst i 0 < 32 → Spread src dst delay i ks vs
      → Offered ks vs ks' vs' (get_or src i 0 * 32 + get_or dst i 0) (get_or delay i 0) → Spread src dst delay (i + 1) ks' vs'
  unfolding direct grid
  edges_more ks vs ks' vs' i h S O =
      record { held = record { at = λ s t a b. rw add-one (at s t a b (costs i s t)) }; tidy = O.tidy S.tidy }
    where
      H : Holds ks vs (direct src dst delay i)
      H = S.held

      at : (s t : ℕ) → s < 32 → t < 32 → Cost i s t → grid ks' vs' s t ≡ min (direct src dst delay i s t) (cost src dst delay i s t)
      at s t a b (hits p q e) = rw (e, ← H.at s t a b, ← p, ← q) O.here
      at s t a b (misses n e) =
          let m : s * 32 + t ≢ get_or src i 0 * 32 + get_or dst i 0 = λ z. n (omega arith) (omega arith) in
          O.there (s * 32 + t) m ∙ H.at s t a b ∙ omega (arith, e, H.at s t a b, grid-top ks vs s t)

  -- no edge of the first m goes from or to a member past n
  pub direct-outside : (m n : ℕ) → ((i : ℕ) → i < m → get_or src i 0 < n) → ((i : ℕ) → i < m → get_or dst i 0 < n)
      → (s t : ℕ) → (n ≤ s) ⊎ (n ≤ t) → direct src dst delay m s t ≡ none
  unfolding direct
  direct-outside zero n from to s t o = refl
  direct-outside (suc i) n from to s t o =
      let e : direct src dst delay i s t ≡ none = direct-outside i n (λ j l. from j (omega arith)) (λ j l. to j (omega arith)) s t o in
      go (costs i s t) o e
    where
      go : Cost i s t → (n ≤ s) ⊎ (n ≤ t) → direct src dst delay i s t ≡ none → min (direct src dst delay i s t) (cost src dst delay i s t) ≡ none
      go (misses x c) o e = omega arith
      go (hits p q c) (inl h) e = absurd (omega (arith, from i (omega arith)))
      go (hits p q c) (inr h) e = absurd (omega (arith, to i (omega arith)))

-- a matrix with no path past n has none there after any rounds
pub via-outside : (g : ℕ → ℕ → ℕ) (n : ℕ) → ((s t : ℕ) → (n ≤ s) ⊎ (n ≤ t) → g s t ≡ none)
    → (k s t : ℕ) → (n ≤ s) ⊎ (n ≤ t) → via g k s t ≡ none
unfolding via next plus
via-outside g n out zero s t o = out s t o
via-outside g n out (suc k) s t (inl h) =
    omega (arith, via-outside g n out k s t (inl h), via-outside g n out k s k (inl h))
via-outside g n out (suc k) s t (inr h) =
    omega (arith, via-outside g n out k s t (inr h), via-outside g n out k k t (inr h))

-- matrices that agree below n have the same least ways there
pub agree : (g h : ℕ → ℕ → ℕ) (n : ℕ) → ((s t : ℕ) → s < n → t < n → g s t ≡ h s t) → (k : ℕ) → k ≤ n → (s t : ℕ) → s < n → t < n → via g k s t ≡ via h k s t
unfolding via next
agree g h n e zero l s t a b = e s t a b
agree g h n e (suc k) l s t a b =
    ap₂ min (agree g h n e k (omega arith) s t a b) (ap₂ plus (agree g h n e k (omega arith) s k a l) (agree g h n e k (omega arith) k t l b))

-- rounds over a matrix that holds g, with no path past n, give the least ways of g
pub closed : (ks vs ks' vs' : List ℕ) (g : ℕ → ℕ → ℕ) (n : ℕ) → n ≤ 32 → ((s t : ℕ) → (n ≤ s) ⊎ (n ≤ t) → g s t ≡ none)
    → Holds ks vs g → Closed ks vs ks' vs' n n → Holds ks' vs' (via g n)
closed ks vs ks' vs' g n few out H C = record { at = λ s t a b. at s t a b (le-or-lt n s) (le-or-lt n t) }
  where
    at : (s t : ℕ) → s < 32 → t < 32 → (n ≤ s) ⊎ (s < n) → (n ≤ t) ⊎ (t < n) → grid ks' vs' s t ≡ via g n s t
    at s t a b (inl h) y = C.rest s t b (inl h) ∙ H.at s t a b ∙ out s t (inl h) ∙ sym (via-outside g n out n s t (inl h))
    at s t a b (inr l) (inl h) = C.rest s t b (inr h) ∙ H.at s t a b ∙ out s t (inr h) ∙ sym (via-outside g n out n s t (inr h))
    at s t a b (inr l) (inr h) =
        C.done s t l h ∙ agree (grid ks vs) g n (λ i j x y. H.at i j (omega arith) (omega arith)) n (omega arith) s t l h

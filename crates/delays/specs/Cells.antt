-- How the program holds delays: a kind byte and a word for each pair, 32 pairs to a row.
-- Assumes nothing.
use Rattle.std.specs.Prelude.{◌≡◌, ◌≢◌, ◌⊎◌, List, ℕ, ◌+◌, ◌*◌, ◌<◌, ◌≤◌, min, eqb, ltb, leb, get_or}
use Rattle.basis.specs.Choice.{pick}
use Rattle.delays.specs.Graph.{far, none, plus, next, via, direct}
use Rattle.delays.specs.declared.Reach.{Reach}
use Rattle.delays.specs.declared.Reach.TheVariants.{At, TooFar, None}

-- what a kind byte and a word say: kind 0 the word, kind 1 too far, any other no path
unfoldable pub cell : ℕ → ℕ → ℕ
cell kind v = pick (eqb kind 0) (min v far) (pick (eqb kind 1) far none)

-- the number of a view, as `cell` says it; `reach_of` goes back
abbrev pub dist_of : Reach → ℕ
dist_of (At v) = min v far
dist_of TooFar = far
dist_of None = none

-- how a number is written: its kind byte, and its word
unfoldable pub kind_of : ℕ → ℕ
kind_of v = pick (ltb v far) 0 (pick (leb v far) 1 2)

unfoldable pub word_of : ℕ → ℕ
word_of v = pick (ltb v far) v 0

-- written so: no other kind, the word a word, and 0 unless the kind is 0
pub record Plain (k v : ℕ) : Type 0 where
  pub kind : k ≤ 2
  pub word : 0 < k → v ≡ 0
  pub small : v < far

pub record Tidy (ks vs : List ℕ) : Type 0 where
  pub at : (q : ℕ) → q < 1024 → Plain (get_or ks q 0) (get_or vs q 0)

-- the entry at a place of the two lists, and the matrix of 32 to a row
abbrev pub entry : List ℕ → List ℕ → ℕ → ℕ
entry ks vs q = cell (get_or ks q 0) (get_or vs q 0)

unfoldable pub grid : List ℕ → List ℕ → ℕ → ℕ → ℕ
grid ks vs s t = cell (get_or ks (s * 32 + t) 0) (get_or vs (s * 32 + t) 0)

-- the entry of each pair is what g says
pub record Holds (ks vs : List ℕ) (g : ℕ → ℕ → ℕ) : Type 0 where
  pub at : (s t : ℕ) → s < 32 → t < 32 → grid ks vs s t ≡ g s t

-- the entry of each pair is what g says, and every byte and word is fixed
pub record Held (ks vs : List ℕ) (g : ℕ → ℕ → ℕ) : Type 0 where
  pub at : (s t : ℕ) → s < 32 → t < 32 → grid ks vs s t ≡ g s t
  pub kinds : (s t : ℕ) → s < 32 → t < 32 → get_or ks (s * 32 + t) 0 ≡ kind_of (g s t)
  pub words : (s t : ℕ) → s < 32 → t < 32 → get_or vs (s * 32 + t) 0 ≡ word_of (g s t)

-- entry p is the least of itself and d, and the others are as they were
pub record Offered (ks vs ks' vs' : List ℕ) (p d : ℕ) : Type 0 where
  pub here : entry ks' vs' p ≡ min (entry ks vs p) d
  pub there : (q : ℕ) → q ≢ p → entry ks' vs' q ≡ entry ks vs q
  pub tidy : Tidy ks vs → Tidy ks' vs'

-- in row s the entries before t are as after round k, and all others are as before it
pub record Rowed (ks vs ks' vs' : List ℕ) (k s t : ℕ) : Type 0 where
  pub done : (j : ℕ) → j < t → grid ks' vs' s j ≡ next (grid ks vs) k s j
  pub rest : (q : ℕ) → (q < s * 32) ⊎ (s * 32 + t ≤ q) → entry ks' vs' q ≡ entry ks vs q
  pub tidy : Tidy ks vs → Tidy ks' vs'

-- in the rows before s the first n entries are as after round k, and all others are as before it
pub record Rounded (ks vs ks' vs' : List ℕ) (k n s : ℕ) : Type 0 where
  pub done : (i j : ℕ) → i < s → j < n → grid ks' vs' i j ≡ next (grid ks vs) k i j
  pub rest : (i j : ℕ) → j < 32 → (s ≤ i) ⊎ (n ≤ j) → grid ks' vs' i j ≡ grid ks vs i j
  pub tidy : Tidy ks vs → Tidy ks' vs'

-- after k rounds over n members
pub record Closed (ks vs ks' vs' : List ℕ) (n k : ℕ) : Type 0 where
  pub done : (i j : ℕ) → i < n → j < n → grid ks' vs' i j ≡ via (grid ks vs) k i j
  pub rest : (i j : ℕ) → j < 32 → (n ≤ i) ⊎ (n ≤ j) → grid ks' vs' i j ≡ grid ks vs i j
  pub tidy : Tidy ks vs → Tidy ks' vs'

-- the entries below p say that there is no path
pub record Cleared (ks vs : List ℕ) (p : ℕ) : Type 0 where
  pub done : (q : ℕ) → q < p → entry ks vs q ≡ none
  pub plain : (q : ℕ) → q < p → Plain (get_or ks q 0) (get_or vs q 0)

-- the least delay of the first m edges, for every pair
pub record Spread (src dst delay : List ℕ) (m : ℕ) (ks vs : List ℕ) : Type 0 where
  pub held : Holds ks vs (direct src dst delay m)
  pub tidy : Tidy ks vs

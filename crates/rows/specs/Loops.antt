-- Loops over rows, and what rows say of a position.
-- Assumes nothing.
use Rattle.std.specs.Prelude.{ℕ, zero, suc, ◌+◌, ◌<◌, eqb}
use Rattle.basis.specs.Choice.{pick}
use Rattle.plans.specs.Nets.{none}

-- f at `count` rows from `first` on, in order
unfoldable pub over_rows : {A : Type 0} → (A → ℕ → A) → ℕ → ℕ → A → A
over_rows f first zero x = x
over_rows f first (suc c) x = f (over_rows f first c x) (first + c)

-- f at the positions 0 .. n - 1, in order
unfoldable pub over_all : {A : Type 0} → (A → ℕ → A) → ℕ → A → A
over_all f zero x = x
over_all f (suc n) x = f (over_all f n x) n

-- the delay of the row that names i, among `count` rows from `first` on; none if no row does
unfoldable pub delay_of : (ℕ → ℕ) → (ℕ → ℕ) → ℕ → ℕ → ℕ → ℕ
delay_of name delay first zero i = none
delay_of name delay first (suc c) i = pick (eqb (name (first + c)) i) (delay (first + c)) (delay_of name delay first c i)

-- the names of `count` rows from `first` on ascend, below n
pub record Ascends (name : ℕ → ℕ) (first count n : ℕ) : Type 0 where
  pub inside : (c : ℕ) → c < count → name (first + c) < n
  pub up : (c d : ℕ) → c < d → d < count → name (first + c) < name (first + d)

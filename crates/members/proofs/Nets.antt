-- The plan that compiled bytes say, field by field.
-- Assumes nothing.
use Prim.Native.Nat.{ℕ}
use mathlib.Core.Path.{◌≡◌, refl}
use mathlib.Core.List.{List}
use Rattle.rows.specs.Rows.{members, capacity}
use Rattle.rows.specs.Nets.{net_in, direct_in, minimum_in}

pub net_count : (b : List ℕ) → (net_in b).count ≡ members b
unfolding net_in
net_count b = refl

pub net_capacity : (b : List ℕ) (i : ℕ) → (net_in b).capacity i ≡ capacity b i
unfolding net_in
net_capacity b i = refl

pub net_direct : (b : List ℕ) (i j : ℕ) → (net_in b).direct i j ≡ direct_in b i j
unfolding net_in
net_direct b i j = refl

pub net_minimum : (b : List ℕ) (i j : ℕ) → (net_in b).minimum i j ≡ minimum_in b i j
unfolding net_in
net_minimum b i j = refl

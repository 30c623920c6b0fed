-- A state and a slab that are well formed for a compiled plan.
-- Assumes nothing.
use Rattle.std.specs.Prelude.{ℕ, ◌*◌, ◌≤◌, ◌≡◌, true, List, length}
use Rattle.states.specs.declared.State.{State}
use Rattle.rows.specs.Rows.{Laid, members}
use Rattle.rows.specs.Nets.{net_in}
use Rattle.members.specs.Formed.{formed}

pub record Fits (b : List ℕ) (s : State) (w : List ℕ) : Type 0 where
  pub laid : Laid b
  pub room : 64 * members b ≤ length w
  pub formed : formed (net_in b) s w ≡ true

-- A plan as a session sees it: how many members, each one's capacity, the delays between them, the routes.
-- Assumes nothing.
use Rattle.std.specs.Prelude.{ℕ, ◌+◌, ◌<◌, ◌≤◌, ◌≡◌, Bool, List, ltb, eqb}
use Rattle.basis.specs.Choice.{not, both}

-- a delay is itself, and this number (2^65) is none
abbrev pub none : ℕ
none = 36893488147419103232

-- an edge by the positions of its ends; its place in the list is the route's number
pub record Route : Type 0 where
  pub source : ℕ
  pub target : ℕ
  pub delay : ℕ

abbrev pub no_route : Route
no_route = record { source = 0; target = 0; delay = 0 }

pub record Net : Type 0 where
  pub count : ℕ
  pub capacity : ℕ → ℕ
  pub direct : ℕ → ℕ → ℕ
  pub minimum : ℕ → ℕ → ℕ
  pub routes : List Route

-- j stands downstream of i: a way leads there, and it is another
unfoldable pub downstream : Net → ℕ → ℕ → Bool
downstream p i j = both (ltb (p.minimum i j) none) (not (eqb j i))

-- what the analysis promises of a net, of the members that it has
pub record Lawful (p : Net) : Type 0 where
  pub triangle : (s u t : ℕ) → s < p.count → u < p.count → t < p.count → p.minimum s u < none → p.minimum u t < none
      → p.minimum s t ≤ p.minimum s u + p.minimum u t
  pub no-zero-cycle : (i : ℕ) → i < p.count → p.minimum i i ≡ 0 → ⊥
  pub direct-least : (s t : ℕ) → s < p.count → t < p.count → p.minimum s t ≤ p.direct s t

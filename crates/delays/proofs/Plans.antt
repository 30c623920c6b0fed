-- The edges of a plan that fits.
-- Assumes nothing.
use mathlib.Core.Path.{◌≡◌}
use mathlib.Core.Logic.{◌⊎◌}
use mathlib.Core.List.{List}
use Prim.Native.Nat.{ℕ, ◌<◌, ◌≤◌}
use lib.ListN.{get_or}
use Rattle.plans.specs.declared.Plan.{Plan}
use Rattle.plans.specs.Values.{Fits}
use Rattle.delays.specs.Graph.{far, none, direct_of, minimum_of}
use Rattle.delays.specs.Cells.{Held, Closed, Spread}
use Rattle.delays.proofs.Walks.{Edges}
use Rattle.delays.proofs.Cells.{held_of, holds_of, tidy_of}
use Rattle.delays.proofs.Rounds.{direct-outside, closed}

-- no path goes from or to a member that the plan has not
pub outside_of : (p : Plan) → Fits p → (s t : ℕ) → (p.members ≤ s) ⊎ (p.members ≤ t) → direct_of p s t ≡ none
outside_of p F = direct-outside p.sources p.targets p.delays p.edges p.members F.from F.to

-- the plan's delays are words
pub edges-of : (p : Plan) → Fits p → ((i : ℕ) → get_or p.delays i 0 < far) → Edges p.sources p.targets p.delays p.edges p.members
edges-of p F w = record { fits = w; from = F.from; to = F.to }

pub direct-held : (p : Plan) (ks vs : List ℕ) → Spread p.sources p.targets p.delays p.edges ks vs → Held ks vs (direct_of p)
direct-held p ks vs S = held_of ks vs (direct_of p) S.tidy S.held

pub minimum-held : (p : Plan) → Fits p → (ks vs ks' vs' : List ℕ)
    → Held ks vs (direct_of p) → Closed ks vs ks' vs' p.members p.members → Held ks' vs' (minimum_of p)
minimum-held p F ks vs ks' vs' H C =
    held_of ks' vs' (minimum_of p) (C.tidy (tidy_of ks vs (direct_of p) H))
    (closed ks vs ks' vs' (direct_of p) p.members F.few (outside_of p F) (holds_of H) C)

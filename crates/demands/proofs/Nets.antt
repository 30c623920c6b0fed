-- The net of a plan that is taken is lawful; so demand 3 holds of its sessions.
-- Assumes nothing.
use Prim.Native.Nat.{ℕ, ◌<◌}
use native.Mathlib.Omega.{arith}
use mathlib.Core.Path.{sym, ◌∙◌}
use Rattle.plans.specs.declared.Plan.{Plan}
use Rattle.plans.specs.Nets.{Net, Lawful}
use Rattle.delays.proofs.Order.{triangle-sum, minimum-below}
use Rattle.delays.proofs.Found.{taken-strict}
use Rattle.states.specs.Sessions.{Session, view}
use Rattle.demands.specs.Nets.{net_of, Taken, Alike}
use Rattle.demands.specs.Histories.{Reached, Answered, Moves}
use Rattle.demands.proofs.Histories.{demand_3}

pub lawful : (p : Plan) → Taken p → Lawful (net_of p)
lawful p h =
    record {
      triangle = λ s u t ls lu lt a b. triangle-sum p h.fits h.words s u t;
      no-zero-cycle = λ i l z. (taken-strict p h.fits h.words h.sound).irreflexive i z;
      direct-least = λ s t ls lt. minimum-below p h.fits h.words s t;
    }

-- so is every net that says the same
pub lawful-alike : (p q : Net) → Alike p q → Lawful p → Lawful q
lawful-alike p q a law =
    record {
      triangle = λ s u t ls lu lt x y.
          let s' = rw a.count at ls in
          let u' = rw a.count at lu in
          let t' = rw a.count at lt in
          omega (arith, a.minimum s t s' t', a.minimum s u s' u', a.minimum u t u' t', law.triangle s u t s' u' t' (omega (arith, a.minimum s u s' u')) (omega (arith, a.minimum u t u' t')));
      no-zero-cycle = λ i l z. let l' = rw a.count at l in law.no-zero-cycle i l' (sym (a.minimum i i l' l') ∙ z);
      direct-least = λ s t ls lt.
          let s' = rw a.count at ls in
          let t' = rw a.count at lt in
          omega (arith, a.minimum s t s' t', a.direct s t s' t', law.direct-least s t s' t');
    }

-- Demand 3 of every session on a plan that is taken
pub demand_3_of : (p : Plan) → Taken p → (s : Session) → Reached (net_of p) s
    → ((j : ℕ) → j < p.members → Answered (net_of p) (view s) j) × Moves (net_of p) (view s)
demand_3_of p h = demand_3 (net_of p) (lawful p h)

-- and of every session on a net that says the same, as one read off a compiled plan
pub demand_3_alike : (p : Plan) → Taken p → (n : Net) → Alike (net_of p) n → (s : Session) → Reached n s
    → ((j : ℕ) → j < n.count → Answered n (view s) j) × Moves n (view s)
demand_3_alike p h n a = demand_3 n (lawful-alike (net_of p) n a (lawful p h))

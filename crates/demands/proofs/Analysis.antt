-- Demand 2 of a plan, from the laws of delays.
-- Assumes nothing.
use Prim.Native.Nat.{ℕ, ◌<◌, ◌≤◌}
use native.Mathlib.Omega.{arith}
use mathlib.Core.Path.{◌≡◌, refl, subst}
use mathlib.Core.Logic.{inl, inr, ◌↔◌}
use lib.ListN.{get_or}
use Rattle.plans.specs.declared.Plan.{Plan}
use Rattle.plans.specs.Values.{Fits}
use Rattle.delays.specs.Graph.{far, none, Walk, EdgeOf, direct_of, minimum_of}
use Rattle.delays.proofs.Walks.{Least}
use Rattle.delays.proofs.Cycles.{quick, walk}
use Rattle.delays.proofs.Bits.{bit_of}
use Rattle.delays.proofs.Order.{Whole, direct-least, direct-whole, minimum-least, minimum-whole}
use Rattle.delays.proofs.Found.{eight, component-right, nine, apart-right}
use Rattle.demands.specs.Analysis.{LeastSum, Analysed}

module _ (W : ℕ → Type 0) (v : ℕ) (L : Least W v) where
  at : (d : ℕ) → d < far → (v ≡ d) ↔ (W d × ((e : ℕ) → W e → d ≤ e))
  at d l = (there, back)
    where
      there : v ≡ d → W d × ((e : ℕ) → W e → d ≤ e)
      there q = let u = L.met (omega arith) in let z : u.0 ≡ d = omega (arith, u.2) in (subst W z u.1, λ e w. omega (arith, L.low e w))

      back : W d × ((e : ℕ) → W e → d ≤ e) → v ≡ d
      back h = let u = L.met (omega (arith, L.low d h.0)) in omega (arith, L.low d h.0, u.2, h.1 u.0 u.1)

  past : (v ≡ far) ↔ (((d : ℕ) × W d) × ((e : ℕ) → W e → far ≤ e))
  past = (there, back)
    where
      there : v ≡ far → ((d : ℕ) × W d) × ((e : ℕ) → W e → far ≤ e)
      there q = let u = L.met (omega arith) in ((u.0, u.1), λ e w. omega (arith, L.low e w))

      back : ((d : ℕ) × W d) × ((e : ℕ) → W e → far ≤ e) → v ≡ far
      back h = let u = L.met (omega (arith, L.low h.0.0 h.0.1)) in omega (arith, u.2, h.1 u.0 u.1)

  nowhere : Whole v → (v ≡ none) ↔ ((d : ℕ) → W d → ⊥)
  nowhere whole = (λ q d w. omega (arith, L.low d w), back whole)
    where
      back : Whole v → ((d : ℕ) → W d → ⊥) → v ≡ none
      back (inl l) h = let u = L.met l in absurd (h u.0 u.1)
      back (inr e) h = e

  least-sum : Whole v → LeastSum W v
  least-sum whole = record { delay = at; too_far = past; no_way = nowhere whole }

-- of every plan that fits, whose delays are words
pub analysed : (p : Plan) → Fits p → ((i : ℕ) → get_or p.delays i 0 < far) → Analysed p
unfolding bit_of
analysed p F w =
    record {
      direct = λ s t. least-sum (EdgeOf p s t) (direct_of p s t) (direct-least p F w s t) (direct-whole p F w s t);
      minimum = λ s t. least-sum (Walk (EdgeOf p) s t) (minimum_of p s t) (minimum-least p F w s t) (minimum-whole p F w s t);
      cycle = (
        λ e. let h = (eight p F w).0 e in (h.0, walk (EdgeOf p) h.1),
        λ h. (eight p F w).1 (h.0, quick (EdgeOf p) refl h.1),
      );
      component = λ e.
          let c = component-right p F w e in
          record {
            smallest = c.smallest;
            looped = walk (EdgeOf p) c.looped;
            least = λ i q. c.least i (quick (EdgeOf p) refl q);
            members = λ j. (
              λ b. let h = (c.members j).0 b in (walk (EdgeOf p) h.0, walk (EdgeOf p) h.1),
              λ h. (c.members j).1 (quick (EdgeOf p) refl h.0, quick (EdgeOf p) refl h.1),
            );
          };
      apart = (
        λ e. let h = (nine p F w).0 e in (λ i q. h.0 i (quick (EdgeOf p) refl q), h.1),
        λ h. (nine p F w).1 (λ i q. h.0 i (walk (EdgeOf p) q), h.1),
      );
      ids = λ e.
          let a = apart-right p F w e in
          record {
            source = a.source;
            target = a.target;
            source_in = a.source_in;
            target_in = a.target_in;
            source-id = a.source-id;
            target-id = a.target-id;
            too_far = a.too_far;
            source_first = a.source_first;
            target_first = a.target_first;
          };
    }

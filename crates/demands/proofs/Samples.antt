-- Whole case on P, by steps, every delivery.
-- Assumes nothing.
use Prim.Native.Nat.{ℕ, zero, suc, ◌<◌, ◌≤◌}
use native.Mathlib.Omega.{arith}
use mathlib.Core.Path.{◌≡◌, refl}
use mathlib.Core.Bool.{true}
use mathlib.Core.Logic.{◌⊎◌, inl, inr, ⊎_elim}
use mathlib.Core.List.{◌∷◌}
use lib.ListN.{get_or, replicate}
use Rattle.plans.specs.Nets.{Net, Lawful, downstream}
use Rattle.transit.specs.Tags.{insert, after, holds}
use Rattle.states.specs.Sessions.{fresh}
use Rattle.states.specs.Rules.{least_to, earliest, over, past, arrivals, completions, horizon, due, bound_of, useful}
use Rattle.states.specs.Steps.{each, to_all, every, any, phase_of, lifecycle, bad_publication, bad_completion, bad_payload, bad_target, payload_refusal, kind_refusal, refusal_of, publishing, effect, visit, grant_below, grants, at_rest, idles, bounds, welcome, accepted, answered, step, finished}
use Rattle.delays.specs.Graph.{plus, next, via, cost, direct}
use Rattle.delays.specs.Search.{first, mask_of}
use Rattle.delays.specs.Refusals.{first_loop, linked_by, component_of, cycle_of, far_target, far_source, far_of, or_else, judged, refusal_of as delays·refusal_of}
use Rattle.demands.specs.Nets.{routes_from, Taken}
use Rattle.demands.proofs.Nets.{lawful}
use Rattle.demands.specs.Samples.{by, answers, after-all, places, plan_p, P, case, deliveries}

-- The deliveries of the whole case, call by call.
pub whole-case : answers P (fresh 2 5) case ≡ deliveries
unfolding deliveries answers P plan_p places by case routes_from plus next via cost direct downstream least_to earliest over past arrivals completions horizon due bound_of useful each to_all every any phase_of lifecycle bad_publication bad_completion bad_payload bad_target holds payload_refusal kind_refusal refusal_of insert after publishing effect visit grant_below grants at_rest idles bounds welcome accepted answered step
whole-case = refl

-- then finished
pub whole-case-finished : finished P (after-all P (fresh 2 5) case) ≡ true
unfolding finished after-all P plan_p places by case routes_from plus next via cost direct downstream least_to earliest over past arrivals completions horizon due bound_of useful each to_all every any phase_of lifecycle bad_publication bad_completion bad_payload bad_target holds payload_refusal kind_refusal refusal_of insert after publishing effect visit grant_below grants at_rest idles bounds welcome accepted answered step
whole-case-finished = refl

-- a plan without members is finished from the start
pub none-finished : (p : Net) (identity : ℕ) → p.count ≡ 0 → finished p (fresh 0 identity) ≡ true
unfolding finished every
none-finished p identity e = rw e

-- ---- P is a plan that is taken
zeros : (n i : ℕ) → ◌≡◌ {A = ℕ} (get_or (replicate n 0) i 0) 0
zeros zero i = refl
zeros (suc n) zero = refl
zeros (suc n) (suc i) = zeros n i

one-then-zeros : (a n i : ℕ) → (get_or (a ∷ replicate n 0) i 0 ≡ a) ⊎ (get_or (a ∷ replicate n 0) i 0 ≡ 0)
one-then-zeros a n zero = inl refl
one-then-zeros a n (suc i) = inr (zeros n i)

under : (b a n i : ℕ) → a < b → get_or (a ∷ replicate n 0) i 0 < b
under b a n i h = ⊎_elim (λ e. omega arith) (λ e. omega arith) (one-then-zeros a n i)

P-taken : Taken plan_p
unfolding plan_p places plus next via cost direct first mask_of first_loop linked_by component_of cycle_of far_target far_source far_of or_else judged delays·refusal_of
P-taken =
    record {
      fits =
          record {
            few = omega arith;
            routed = omega arith;
            ids = refl;
            capacities = refl;
            routes = refl;
            sources = refl;
            targets = refl;
            delays = refl;
            from = λ k l. under 2 0 255 k (omega arith);
            to = λ k l. under 2 1 255 k (omega arith);
            small = λ i l. small i;
          };
      words = λ i. under 18446744073709551616 10 255 i (omega arith);
      sound = refl;
    }
  where
    small : (i : ℕ) → get_or (1 ∷ (1 ∷ replicate 30 0)) i 0 ≤ 32
    small zero = omega arith
    small (suc i) = let h : get_or (1 ∷ replicate 30 0) i 0 < 33 = under 33 1 30 i (omega arith) in omega arith

pub P-lawful : Lawful P
unfolding P
P-lawful = lawful plan_p P-taken

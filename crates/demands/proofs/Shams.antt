-- Each sham falls to a demand, on P.
-- Assumes nothing.
use Prim.Native.Nat.{ℕ, zero, suc, ◌<◌}
use native.Mathlib.Omega.{arith}
use mathlib.Core.Path.{◌≡◌, refl, sym, ap, subst, ◌∙◌}
use mathlib.Core.Bool.{true, false}
use Rattle.std.proofs.Common.{Option, None, Some}
use mathlib.Core.List.{List, [], ◌∷◌}
use lib.ListN.{get_or-replicate}
use Rattle.tags.specs.declared.Tag.{Tag}
use Rattle.tags.specs.declared.Tag.TheVariants.{Finite, Forever}
use Rattle.tags.proofs.Order.{clash}
use Rattle.plans.specs.Nets.{Net, downstream}
use Rattle.transit.specs.Tags.{insert, after, holds}
use Rattle.states.specs.declared.Request.TheVariants.{Hello, Publish, Complete, Payload}
use Rattle.states.specs.declared.Delivery.{Delivery}
use Rattle.states.specs.declared.Delivery.TheVariants.{Started, Grant, Failed}
use Rattle.states.specs.Sessions.{Session, blank, fresh, view}
use Rattle.states.specs.Rules.{least_to, earliest, over, past, arrivals, completions, horizon, due, bound_of, useful}
use Rattle.states.specs.Steps.{Out, each, to_all, every, any, phase_of, lifecycle, bad_publication, bad_completion, bad_payload, bad_target, payload_refusal, kind_refusal, refusal_of, publishing, effect, visit, grant_below, grants, at_rest, idles, bounds, welcome, accepted, answered, step}
use Rattle.demands.specs.Histories.{event_at, Answered}
use Rattle.delays.specs.Graph.{plus, next, via, cost, direct}
use Rattle.demands.specs.Nets.{routes_from}
use Rattle.demands.specs.Samples.{places, plan_p, P}
use Rattle.demands.proofs.Samples.{P-lawful}
use Rattle.demands.specs.Shams.{Build, Second, Third, ReachedBy, opened, asked, refusing, fixed, Leaves, grants_once}

-- ---- refusing always falls to demand 2
first-hello : (step P (fresh 2 5) 0 (Hello 5)).sent ≡ []
unfolding P plan_p every phase_of lifecycle kind_refusal refusal_of effect welcome accepted answered step
first-hello = refl

some-failed : {A : Type 0} (d : Delivery) (l : List Delivery) → d ∷ l ≡ [] → A
some-failed d l e = let z : ◌≡◌ {A = ℕ} 0 1 = cc in absurd (omega arith)

pub refusing-falls : (n : ℕ) → Second (refusing n) → ⊥
refusing-falls n h = some-failed (Failed 0 n 0) (Failed 1 n 0 ∷ []) (to-P ∙ (ap (λ (o : Out). o.sent) (h P (fresh 2 5) 0 (Hello 5)) ∙ first-hello))
  where
    to-P : Failed 0 n 0 ∷ (Failed 1 n 0 ∷ []) ≡ (refusing n P (fresh 2 5) 0 (Hello 5)).sent
    to-P = unfold P plan_p refusing to_all in refl

-- ---- and meets demand 3 emptily
still : (n : ℕ) (p : Net) (s : Session) → ReachedBy (refusing n) p s → (j : ℕ) → j < p.count → (view s j).publication ≡ None
unfolding refusing
still n p _ (opened identity) j l = rw (get_or-replicate p.count j blank blank l)
still n p _ (asked {s = s} r i q a) j l = still n p s r j l

pub refusing-meets : (n : ℕ) → Third (refusing n)
refusing-meets n p law s r = (
  λ j l i e q. clash (unpublished (sym (still n p s r j l) ∙ q)),
  λ published busy o m least. absurd (nobody p.count refl published o m least),
)
  where
    unpublished : {r : ℕ} {e : Tag} → None ≡ event_at r e → false ≡ true
    unpublished q = cc

    nobody : (c : ℕ) → p.count ≡ c → ((k : ℕ) → k < p.count → (view s k).publication ≡ None → ⊥) → (o m : ℕ) → least_to p.count (λ k. earliest (view s k)) ≡ Finite o m → ⊥
    nobody zero e f o m least = nothing (subst (λ (c : ℕ). least_to c (λ k. earliest (view s k)) ≡ Finite o m) e least)
      where
        nothing : least_to 0 (λ k. earliest (view s k)) ≡ Finite o m → ⊥
        nothing z = unfold least_to in (let y : ◌≡◌ {A = ℕ} 0 1 = cc in omega arith)
    nobody (suc c) e f o m least = f 0 (omega arith) (still n p s r 0 (omega arith))

-- ---- a fixed answer falls to demand 2
second-hello : (step P (step P (fresh 2 5) 0 (Hello 5)).session 1 (Hello 5)).sent ≡ Started 0 ∷ (Started 1 ∷ [])
unfolding P plan_p every to_all phase_of lifecycle kind_refusal refusal_of effect welcome accepted answered step
second-hello = refl

pub fixed_falls : (o : Out) → Second (fixed o) → ⊥
fixed_falls o h =
    some-failed (Started 0) (Started 1 ∷ [])
    (sym second-hello ∙ (sym (ap (λ (x : Out). x.sent) (h P (step P (fresh 2 5) 0 (Hello 5)).session 1 (Hello 5))) ∙ (ap (λ (x : Out). x.sent) (h P (fresh 2 5) 0 (Hello 5)) ∙ first-hello)))

-- ---- one that leaves the state alone falls to demand 2
joins : (view (step P (fresh 2 5) 0 (Hello 5)).session 0).joined ≡ true
unfolding P plan_p every phase_of lifecycle kind_refusal refusal_of effect welcome accepted answered step
joins = refl

pub leaves_falls : (f : Build) → Leaves f → Second f → ⊥
leaves_falls f l h =
    clash (sym (ap (λ (s : Session). (view s 0).joined) (sym (ap (λ (x : Out). x.session) (h P (fresh 2 5) 0 (Hello 5))) ∙ l P (fresh 2 5) 0 (Hello 5))) ∙ joins)

-- ---- one that grants on first publication only
-- P's case up to the publication of no event, by a build
abbrev sofar : Build → Session
sofar f =
    let s1 = (f P (fresh 2 5) 0 (Hello 5)).session in
    let s2 = (f P s1 1 (Hello 5)).session in
    let s3 = (f P s2 0 (Publish 1 (Some (Finite 0 0)))).session in
    let s4 = (f P s3 1 (Publish 1 (Some (Finite 10 0)))).session in
    let s5 = (f P s4 0 (Payload 0 (Finite 10 0) 77)).session in
    (f P s5 0 (Complete (Finite 0 0))).session

-- demand 2 asks for a grant to member 1 next
grant-next : (step P (sofar step) 0 (Publish 2 None)).sent ≡ Grant 1 1 Forever ∷ []
unfolding P plan_p places routes_from plus next via cost direct downstream least_to earliest over past arrivals completions horizon due bound_of useful each to_all every any phase_of lifecycle bad_publication bad_completion bad_payload bad_target holds payload_refusal kind_refusal refusal_of insert after publishing effect visit grant_below grants at_rest idles bounds welcome accepted answered step
grant-next = refl

no-grant : (grants_once P (sofar step) 0 (Publish 2 None)).sent ≡ []
unfolding grants_once P plan_p places routes_from plus next via cost direct downstream least_to earliest over past arrivals completions horizon due bound_of useful each to_all every any phase_of lifecycle bad_publication bad_completion bad_payload bad_target holds payload_refusal kind_refusal refusal_of insert after publishing effect visit grant_below grants at_rest idles bounds welcome accepted answered step
no-grant = refl

pub once-falls-to_2 : Second grants_once → ⊥
once-falls-to_2 h = some-failed (Grant 1 1 Forever) [] (sym grant-next ∙ (sym (ap (λ (o : Out). o.sent) (h P (sofar step) 0 (Publish 2 None))) ∙ no-grant))

-- demand 3 asks that member 1 holds one
abbrev stuck : Session
stuck = (grants_once P (sofar grants_once) 0 (Publish 2 None)).session

stuck-reached : ReachedBy grants_once P stuck
unfolding P plan_p
stuck-reached =
    asked (asked (asked (asked (asked (asked (asked (opened 5)
    0 (Hello 5) tt)
    1 (Hello 5) tt)
    0 (Publish 1 (Some (Finite 0 0))) (omega arith))
    1 (Publish 1 (Some (Finite 10 0))) (omega arith))
    0 (Payload 0 (Finite 10 0) 77) (omega arith))
    0 (Complete (Finite 0 0)) (omega arith))
    0 (Publish 2 None) tt

without : Answered P (view stuck) 1 → ◌≡◌ {A = Option ℕ} None (Some 1)
unfolding grants_once P plan_p places routes_from plus next via cost direct downstream least_to earliest over past arrivals completions horizon due bound_of useful each to_all every any phase_of lifecycle bad_publication bad_completion bad_payload bad_target holds payload_refusal kind_refusal refusal_of insert after publishing effect visit grant_below grants at_rest idles bounds welcome accepted answered step
without h = (h 1 (Finite 10 0) refl refl refl).0

two : 1 < P.count
unfolding P plan_p
two = omega arith

pub once-falls-to_3 : Third grants_once → ⊥
once-falls-to_3 h = let e = without ((h P P-lawful stuck stuck-reached).0 1 two) in let z : ◌≡◌ {A = ℕ} 0 1 = cc in omega arith

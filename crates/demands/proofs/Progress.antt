-- Demand 3, second half: where every member is settled, the session moves.
-- Assumes nothing.
use Prim.Native.Nat.{ℕ, zero, suc, ◌<◌, ◌≤◌}
use native.Mathlib.Omega.{arith}
use mathlib.Core.Path.{◌≡◌, refl, sym, ap, subst, ◌∙◌}
use mathlib.Core.Bool.{Bool, true, false}
use mathlib.Core.Logic.{◌⊎◌, inl, inr, ⊎_elim}
use lib.Dec.{ltb, eqb}
use Rattle.std.proofs.Common.{Option, None, Some}
use borrow.Author.Tests.{eqb-true, eq-eqb}
use Rattle.tags.specs.declared.Tag.{Tag}
use Rattle.tags.specs.declared.Tag.TheVariants.{Never, Finite, Forever}
use Rattle.tags.specs.Tags.{top, tag_le, greatest_of}
use Rattle.tags.proofs.Order.{clash, trans, reflexive, antisymmetric}
use Rattle.tags.proofs.Laws.{Small}
use Rattle.plans.specs.Nets.{Net, Lawful, none}
use Rattle.transit.specs.Tags.{first_of}
use Rattle.states.specs.declared.Publication.{Publication}
use Rattle.states.specs.Sessions.{Member, or_never}
use Rattle.states.specs.Rules.{is_set, active, least_to, expected, awaited, earliest, over, coming, arrivals, completions, horizon}
use Rattle.states.proofs.Laws.{Le, Lt, compare, eq-or-less, greatest-left, le_pred, delay-after, delay-none, least-all, least-each, least-met}
use Rattle.demands.specs.Histories.{event_at, Granted, Awaits, Moves}
use Rattle.demands.proofs.Horizons.{Settled}

-- ---- among the members that pass a test, one with no zero-delay source that passes it
module _ (p : Net) (law : Lawful p) (test : ℕ → Bool) where
  abbrev pub Foremost : ℕ → ℕ → Type 0
  Foremost k i = (i < p.count) × (test i ≡ true) × ((s : ℕ) → s < k → test s ≡ true → p.minimum s i ≡ 0 → ⊥)

  further : (k i : ℕ) → k < p.count → Foremost k i → (b c : Bool) → test k ≡ b → eqb (p.minimum k i) 0 ≡ c → (j : ℕ) × Foremost (suc k) j
  further k i h f true true et ez =
      (k, (h, et, λ s l ps z. ⊎_elim (λ e. law.no-zero-cycle k h (rw e at z)) (λ l'. f.2 s l' ps (omega (arith, law.triangle s k i (omega arith) h f.0 (omega arith) (omega (arith, eqb-true (p.minimum k i) 0 ez)), eqb-true (p.minimum k i) 0 ez))) (eq-or-less s k l)))
  further k i h f true false et ez =
      (i, (f.0, f.1, λ s l ps z. ⊎_elim (λ e. clash (sym ez ∙ eq-eqb _ _ (rw e at z))) (λ l'. f.2 s l' ps z) (eq-or-less s k l)))
  further k i h f false c et ez =
      (i, (f.0, f.1, λ s l ps z. ⊎_elim (λ e. clash (sym et ∙ (rw e at ps))) (λ l'. f.2 s l' ps z) (eq-or-less s k l)))

  pub foremost : (i : ℕ) → i < p.count → test i ≡ true → (k : ℕ) → k ≤ p.count → (j : ℕ) × Foremost k j
  foremost i h t zero l = (i, (h, t, λ s l' ps z. omega arith))
  foremost i h t (suc k) l = let r = foremost i h t k (omega arith) in further k r.0 l r.1 (test k) (eqb (p.minimum k r.0) 0) refl refl

-- ---- a tag that all sources pass is reached by the horizon
module _ (p : Net) (v : ℕ → Member) (j o m : ℕ) where
  pub reaches : m ≤ top → ((i : ℕ) → i < p.count → Lt (Finite o m) (coming p v j i)) → Le (Finite o m) (horizon p v j)
  unfolding horizon arrivals
  reaches h lt =
      let a = arrivals p v j in
      let b = completions p v j in
      trans (Finite o m) a (horizon p v j) (le_pred (Finite o m) (least_to p.count (coming p v j)) h (least-all (λ (t : Tag). Lt (Finite o m) t) p.count (coming p v j) refl lt))
      (trans a (greatest_of a b) (horizon p v j) (greatest-left a b) (greatest-left (greatest_of a b) (or_never (v j).granted)))

  -- a source at or past the tag, and past it where the way is without delay, passes it
  pub passes : (d : ℕ) (x : Tag) → Le (Finite o m) x → (d ≡ 0 → Lt (Finite o m) x) → Lt (Finite o m) (over d x)
  unfolding over
  passes d x h l = go (ltb d none) (eqb d 0) refl refl
    where
      go : (b c : Bool) → ltb d none ≡ b → eqb d 0 ≡ c → Lt (Finite o m) (over d x)
      go true true e z = rw (e, eqb-true d 0 z, delay-none x) (l (eqb-true d 0 z))
      go true false e z = rw e (delay-after o m x d (pos d z) h)
        where
          pos : (d : ℕ) → eqb d 0 ≡ false → 0 < d
          pos zero z = clash (sym z)
          pos (suc d) z = omega arith
      go false c e z = rw e

-- an earliest tag that is finite is the event's, or one in transit before it
from : (m : Member) (o k : ℕ) → earliest m ≡ Finite o k → ((r : ℕ) × (m.publication ≡ event_at r (Finite o k))) ⊎ Awaits m
unfolding earliest
from m o k e = go m.publication refl (tag_le (awaited m.publication) (first_of m.transit)) refl
  where
    event : (q : Option Publication) → awaited q ≡ Finite o k → (r : ℕ) × (q ≡ event_at r (Finite o k))
    event None z = clash (subst (λ (t : Tag). Le t Never) z refl)
    event (Some q) z = (q.revision, ap (λ (e : Option Tag). Some (record { revision = q.revision; next = e })) (next q.next z))
      where
        next : (e : Option Tag) → expected e ≡ Finite o k → e ≡ Some (Finite o k)
        next None z = clash (subst (λ (t : Tag). Le Forever t) z refl)
        next (Some t) z = ap Some z

    go : (q : Option Publication) → m.publication ≡ q → (b : Bool) → tag_le (awaited m.publication) (first_of m.transit) ≡ b → ((r : ℕ) × (m.publication ≡ event_at r (Finite o k))) ⊎ Awaits m
    go q eq true l = inl (event m.publication (rw l at e))
    go q eq false l = inr (rw l)

-- a grant that covers a finite event is there
holds : (m : Member) (q o k : ℕ) → m.publication ≡ event_at q (Finite o k) → m.revision ≡ Some q → Le (Finite o k) (or_never m.granted) → Granted m
holds m q o k e r h = go m.granted refl
  where
    go : (l : Option Tag) → m.granted ≡ l → Granted m
    go None z = clash (rw z at h)
    go (Some t) z = (q, Finite o k, t, e, r, z, rw z at h)

pub moves : (p : Net) → Lawful p → (v : ℕ → Member) → ((j : ℕ) → j < p.count → Settled p v j) → ((j : ℕ) → j < p.count → Small (earliest (v j))) → ((j : ℕ) → is_set (v j).idle ≡ false → active (v j) ≡ true) → Moves p v
moves p law v settled small awake published busy o m least = (i, r.1.0, at_least, ⊎_elim (λ q. inl (granted q)) (λ a. inr a) (from (v i) o m at_least))
  where
    test : ℕ → Bool
    test k = tag_le (earliest (v k)) (Finite o m)

    some : (k : ℕ) × (k < p.count) × (earliest (v k) ≡ Finite o m)
    some = least-met p.count (λ k. earliest (v k)) o m least

    r : (j : ℕ) × Foremost p law (λ k. tag_le (earliest (v k)) (Finite o m)) p.count j
    r = foremost p law (λ k. tag_le (earliest (v k)) (Finite o m)) some.0 some.1 (rw some.2 (reflexive (Finite o m))) p.count (omega arith)

    i : ℕ
    i = r.0

    low : (k : ℕ) → k < p.count → Le (Finite o m) (earliest (v k))
    low k h = rw least at (least-each p.count (λ k. earliest (v k)) k h)

    at_least : earliest (v i) ≡ Finite o m
    at_least = antisymmetric _ _ r.1.1 (low i r.1.0)

    pass : (s : ℕ) → s < p.count → Lt (Finite o m) (over (p.minimum s i) (earliest (v s)))
    pass s h = passes p v i o m (p.minimum s i) (earliest (v s)) (low s h) (λ z. ⊎_elim (λ l. l) (λ g. absurd (r.1.2 s h g z)) (compare (Finite o m) (earliest (v s))))

    reached : Le (Finite o m) (horizon p v i)
    reached = reaches p v i o m (subst Small some.2 (small some.0 some.1)) pass

    granted : (q : ℕ) × ((v i).publication ≡ event_at q (Finite o m)) → Granted (v i)
    granted (q, e) = let s = settled i r.1.0 q (Finite o m) e (awake i (busy i r.1.0)) reached in
        holds (v i) q o m e s.0 (trans (Finite o m) (horizon p v i) (or_never (v i).granted) reached s.1)

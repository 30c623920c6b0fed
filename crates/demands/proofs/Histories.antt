-- Demand 3 over every history.
-- Assumes nothing.
use Prim.Native.Nat.{ℕ, zero, suc, ◌<◌, ◌≤◌}
use native.Mathlib.Omega.{arith}
use mathlib.Core.Path.{◌≡◌, refl, sym, ap, ◌∙◌}
use mathlib.Core.Bool.{Bool, true, false}
use Rattle.std.proofs.Common.{Option, None, Some}
use mathlib.Core.Logic.{⊎_elim}
use mathlib.Core.List.{List, [], ◌∷◌}
use lib.Dec.{ltb}
use lib.ListN.{length-replicate, get_or-replicate}
use borrow.Author.Tests.{ltb-false, leb-false, ne_eqb}
use Rattle.basis.specs.Choice.{pick, not, both}
use Rattle.tags.specs.declared.Tag.{Tag}
use Rattle.tags.specs.declared.Tag.TheVariants.{Never, Finite, Forever}
use Rattle.tags.specs.Tags.{tag_le, least_of, greatest_of}
use Rattle.tags.proofs.Order.{clash, reflexive, trans, antisymmetric, forever-greatest, least-left, least-right}
use Rattle.tags.proofs.Laws.{Small}
use Rattle.plans.specs.Nets.{Net, Lawful, none, downstream}
use Rattle.transit.specs.Tags.{insert, after, first_of}
use Rattle.states.specs.declared.Request.{Request}
use Rattle.states.specs.declared.Request.TheVariants.{Hello, Publish, Complete, Payload, ConfirmIdle, Stop, Abort}
use Rattle.states.specs.Sessions.{Member, Session, or_never, blank, fresh, view, put, with_cause, with_joined, with_transit, with_asked, with_stopped}
use Rattle.states.specs.Rules.{active, is_set, awaited, earliest, over, past, arrivals, completions, horizon}
use Rattle.states.specs.Steps.{Out, refusal_of, publishing, effect, follow, welcome, accepted, answered, step, route_at, ended, abandon}
use Rattle.states.specs.Formed.{Fits, FitsRequest, Word, WordNext, Sound}
use Rattle.states.proofs.Laws.{Le, picked, which, greatest-right}
use Rattle.states.proofs.Passes.{put_other}
use Rattle.states.proofs.Memberwise.{passed}
use Rattle.states.proofs.Formed.{fresh-sound, step-sound, abandon-sound, everywhere}
use Rattle.demands.specs.Histories.{event_at, Reached, opened, asked, aborted, refused, Answered, Moves}
use Rattle.demands.proofs.Progress.{moves}
use Rattle.demands.proofs.Horizons.{Settled, Inputs, horizon-same, same-settled, coming-none, done_none}
use Rattle.demands.proofs.Changes.{SmallAll, SmallMember, earliest-small, Sane, Steady, put-sane, put-steady, put_light}
use Rattle.demands.proofs.Settles.{grants-settle, idles-steady, bounds-steady}

fits-small : (t : Tag) → Fits t → Small t
fits-small Never h = tt
fits-small (Finite o m) h = h.1
fits-small Forever h = tt

-- ---- tags in transit
insert-first : (t : Tag) (ts : List Tag) → Le (first_of (insert t ts)) (first_of ts)
unfolding insert
insert-first t [] = forever-greatest t
insert-first t (x ∷ xs) = go (tag_le t x) refl
  where
    go : (b : Bool) → tag_le t x ≡ b → Le (first_of (pick b (pick (tag_le x t) (x ∷ xs) (t ∷ (x ∷ xs))) (x ∷ insert t xs))) x
    go true e = picked (λ (l : List Tag). Le (first_of l) x) (tag_le x t) (x ∷ xs) (t ∷ (x ∷ xs)) (reflexive x) e
    go false e = reflexive x

insert-small : (t : Tag) (ts : List Tag) → Small t → SmallAll ts → SmallAll (insert t ts)
unfolding insert
insert-small t [] h hs = (h, tt)
insert-small t (x ∷ xs) h hs =
    picked SmallAll (tag_le t x) (pick (tag_le x t) (x ∷ xs) (t ∷ (x ∷ xs))) (x ∷ insert t xs)
    (picked SmallAll (tag_le x t) (x ∷ xs) (t ∷ (x ∷ xs)) hs (h, hs))
    (hs.0, insert-small t xs h hs.1)

after_small : (t : Tag) (ts : List Tag) → SmallAll ts → SmallAll (after t ts)
unfolding after
after_small t [] hs = tt
after_small t (x ∷ xs) hs = picked SmallAll (tag_le x t) (after t xs) (x ∷ after t xs) (after_small t xs hs.1) (hs.0, after_small t xs hs.1)

least-lower : (a b b' : Tag) → Le b' b → Le (least_of a b') (least_of a b)
least-lower a b b' h = picked (λ (x : Tag). Le (least_of a b') x) (tag_le a b) a b (least-left a b') (trans (least_of a b') b' b (least-right a b') h)

payload_inputs : (m : Member) (t : Tag) → Small t → SmallMember m → Inputs m (with_transit m (insert t m.transit))
unfolding earliest
payload_inputs m t h hs =
    record {
      earlier = least-lower (awaited m.publication) (first_of m.transit) (first_of (insert t m.transit)) (insert-first t m.transit);
      tiny = earliest-small (with_transit m (insert t m.transit)) (hs.0, insert-small t m.transit h hs.1);
      completion = refl;
    }

-- ---- a change at k does not reach whoever is not downstream of k
no_way : (p : Net) (k i : ℕ) → (i ≡ k → ⊥) → downstream p k i ≡ false → none ≤ p.minimum k i
unfolding downstream
no_way p k i n d = go (ltb (p.minimum k i) none) refl
  where
    go : (b : Bool) → ltb (p.minimum k i) none ≡ b → none ≤ p.minimum k i
    go true e = clash (sym (rw (e, ne_eqb i k n) at d))
    go false e = ltb-false (p.minimum k i) none e

far-settled : (p : Net) → Lawful p → (s : Session) (k : ℕ) (m : Member) (i : ℕ) → k < p.count → i < p.count → (i ≡ k → ⊥) → downstream p k i ≡ false → Settled p (view s) i → Settled p (view (put s k m)) i
far-settled p law s k m i lk li n d =
    same-settled p (view s) (view (put s k m)) i
    (horizon-same p (view s) (view (put s k m)) i
    (λ a l. ⊎_elim (λ e. coming-none p (view s) (view (put s k m)) i a (rw e wall)) (λ f. ap (λ (x : Member). over (p.minimum a i) (earliest x)) (put_other s k m a f)) (which a k))
    (λ a l. ⊎_elim (λ e. done_none p (view s) (view (put s k m)) i a (rw e (omega (arith, wall, law.direct-least k i lk li)))) (λ f. ap (λ (x : Member). past (p.direct a i) (or_never x.completed)) (put_other s k m a f)) (which a k))
    (put_other s k m i n))
    (put_other s k m i n)
  where
    wall : none ≤ p.minimum k i
    wall = no_way p k i n d

-- ---- each kind, then the passes
module _ (p : Net) (law : Lawful p) (s : Session) (h : Steady p s) (k : ℕ) (l : k < p.count) where
  settle : (o : Out) → Sane p o.session → ((i : ℕ) → i < p.count → (i ≡ k → ⊥) → downstream p k i ≡ false → Settled p (view o.session) i) → Steady p (follow p k o).session
  settle o a b = bounds-steady p _ (idles-steady p _ (grants-settle p k l o a b))

  -- a record of the asker's
  own : (m : Member) → SmallMember m → (o : Out) → o.session ≡ put s k m → Steady p (follow p k o).session
  own m a o e = settle o (rw e (put-sane p s h.sane k m (λ l'. a))) (λ i n f d. rw e (far-settled p law s k m i l n f d (h.settled i n)))

  -- a quiet change
  calm : (o : Out) → Steady p o.session → Steady p (follow p k o).session
  calm o a = settle o a.sane (λ i n f d. a.settled i n)

  pub accepted-steady : (q : Request) → FitsRequest q → Steady p (accepted p s k q).session
  unfolding accepted effect welcome publishing
  accepted-steady (Hello d) a = put_light p s h k (with_joined (view s k)) record { publication = refl; transit = refl; completed = refl; revision = refl; granted = refl; awake = λ x. x }
  accepted-steady (Publish r None) a = own _ (tt, (h.sane.small k l).1) (effect p s k (Publish r None)) refl
  accepted-steady (Publish r (Some t)) a = own _ (fits-small t a, (h.sane.small k l).1) (effect p s k (Publish r (Some t))) refl
  accepted-steady (Complete t) a = own _ ((h.sane.small k l).0, after_small t (view s k).transit (h.sane.small k l).1) (effect p s k (Complete t)) refl
  accepted-steady (Payload r t x) a =
      let j = (route_at p r).target in
      calm (effect p s k (Payload r t x))
      (put-steady p s h j (with_transit (view s j) (insert t (view s j).transit))
      (λ n. ((h.sane.small j n).0, insert-small t (view s j).transit (fits-small t a) (h.sane.small j n).1))
      (λ n. payload_inputs (view s j) t (fits-small t a) (h.sane.small j n))
      record { publication = refl; revision = refl; granted = refl; awake = λ x. x })
  accepted-steady (ConfirmIdle r) a = calm (effect p s k (ConfirmIdle r)) (put_light p s h k (with_asked (view s k) r) record { publication = refl; transit = refl; completed = refl; revision = refl; granted = refl; awake = λ x. x })
  accepted-steady Stop a = calm (effect p s k Stop) (put_light p s h k (with_stopped (view s k)) record { publication = refl; transit = refl; completed = refl; revision = refl; granted = refl; awake = λ x. never (is_set (view s k).idle) x })
    where
      never : {A : Type 0} (b : Bool) → both (not b) false ≡ true → A
      never true e = clash e
      never false e = clash e
  accepted-steady (Abort c) a = h

-- ---- one step
pub step-steady : (p : Net) → Lawful p → (s : Session) → Steady p s → (k : ℕ) (q : Request) → FitsRequest q → Steady p (step p s k q).session
unfolding step answered
step-steady p law s h k q a =
    picked (λ (x : Out). Steady p x.session) (ltb 0 s.cause) _ _ h (go (refusal_of p s k q) refl)
  where
    go : (r : ℕ) → refusal_of p s k q ≡ r → Steady p (answered p s k q r).session
    go zero e = accepted-steady p law s h k (leb-false p.count k (passed p s k q e).known) q a
    go (suc r) e = record { sane = record { long = h.sane.long; small = h.sane.small }; settled = h.settled }

fresh-steady : (p : Net) (identity : ℕ) → Steady p (fresh p.count identity)
fresh-steady p identity =
    record {
      sane = record { long = simp length-replicate; small = λ i l. rw (at_i i l) (tt, tt) };
      settled = λ i l r e q a reach. clash (blank-not r e (rw (at_i i l) at q));
    }
  where
    at_i : (i : ℕ) → i < p.count → view (fresh p.count identity) i ≡ blank
    at_i i l = get_or-replicate p.count i blank blank l

    blank-not : (r : ℕ) (e : Tag) → None ≡ event_at r e → false ≡ true
    blank-not r e z = cc

abandon-steady : (p : Net) (s : Session) → Steady p s → (code : ℕ) → Steady p (abandon p s code).session
unfolding abandon ended
abandon-steady p s h code =
    picked (Steady p) (ltb 0 s.cause) s (with_cause s 20 code) h record { sane = record { long = h.sane.long; small = h.sane.small }; settled = h.settled }

-- ---- every history
pub steady : (p : Net) → Lawful p → (s : Session) → Reached p s → Steady p s
steady p law _ (opened identity) = fresh-steady p identity
steady p law _ (asked {s = s} r k q a) = step-steady p law s (steady p law s r) k q a
steady p law _ (aborted {s = s} r code) = abandon-steady p s (steady p law s r) code
steady p law _ (refused {s = s} r) = steady p law s r

-- Every session that a history leads to is well formed: no call of one is refused with 14.
pub formed : (p : Net) (s : Session) → Reached p s → Sound p s
formed p _ (opened identity) = fresh-sound p identity
formed p _ (asked {s = s} r k q a) = step-sound p s k q a (formed p s r)
formed p _ (aborted {s = s} r code) = abandon-sound p s code (formed p s r)
formed p _ (refused {s = s} r) = formed p s r

awake : (m : Member) → (m.stopped ≡ true → is_set m.idle ≡ true) → is_set m.idle ≡ false → active m ≡ true
awake m h e = go m.stopped refl
  where
    go : (b : Bool) → m.stopped ≡ b → active m ≡ true
    go true z = clash (sym e ∙ h z)
    go false z = rw (e, z)

-- a horizon that reaches a finite event is not NEVER
reached : (l : Option Tag) (e h : Tag) → Word e → Le e h → Le h (or_never l) → Le (or_never l) h → l ≡ Some h
reached None Never h w a b c = absurd w
reached None (Finite o m) h w a b c = clash (trans (Finite o m) h Never a b)
reached None Forever h w a b c = absurd w
reached (Some t) e h w a b c = ap Some (antisymmetric t h c b)

answered-of : (p : Net) (v : ℕ → Member) (j : ℕ) → WordNext (v j).publication → Settled p v j → Answered p v j
unfolding horizon
answered-of p v j w s r e q a reach =
    let t = s r e q a reach in
    (t.0, reached (v j).granted e (horizon p v j) (rw q at w) reach t.1 (greatest-right (greatest_of (arrivals p v j) (completions p v j)) (or_never (v j).granted)))

-- Demand 3, both halves, of every session that a history leads to
pub demand_3 : (p : Net) → Lawful p → (s : Session) → Reached p s → ((j : ℕ) → j < p.count → Answered p (view s) j) × Moves p (view s)
demand_3 p law s r =
    let h = steady p law s r in
    let f = everywhere p s (formed p s r) in (
      λ j l. answered-of p (view s) j (f j).event (h.settled j l),
      moves p law (view s) h.settled (λ j l. earliest-small (view s j) (h.sane.small j l)) (λ j. awake (view s j) (f j).rest),
    )

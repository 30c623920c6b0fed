-- A step sends at most 2 n + 1 deliveries.
-- Assumes nothing.
use Prim.Native.Nat.{ℕ, zero, suc, ◌+◌, ◌<◌, ◌≤◌}
use native.Mathlib.Omega.{arith}
use mathlib.Core.Path.{◌≡◌, refl, sym, ap, subst, ◌∙◌}
use mathlib.Core.Bool.{Bool, true, false}
use mathlib.Core.Logic.{⊎_elim}
use mathlib.Core.List.{List, [], ◌∷◌}
use lib.Dec.{ltb, leb}
use lib.ListN.{length, length-append}
use lib.Seq.{get_or-set_same}
use borrow.Author.Tests.{eq-eqb, leb-true, leb-false}
use Rattle.basis.specs.Choice.{pick, not, both}
use Rattle.tags.proofs.Order.{clash}
use Rattle.plans.specs.Nets.{Net, downstream}
use Rattle.std.specs.Prelude.{Option, Some, None}
use Rattle.states.specs.declared.Request.{Request}
use Rattle.states.specs.declared.Request.TheVariants.{Hello, Publish, Complete, Payload, ConfirmIdle, Stop, Abort}
use Rattle.states.specs.declared.Delivery.{Delivery}
use Rattle.states.specs.declared.Delivery.TheVariants.{Started, Failed}
use Rattle.states.specs.Sessions.{Member, Session, blank, view, with_idle}
use Rattle.states.specs.Rules.{is_set, mark_is, active, revision_of}
use Rattle.states.specs.Steps.{Out, Pass, tell, each, to_all, every, refusal_of, effect, visit, granting, grant_below, grants, at_rest, idling, idles, bounding, bounds, follow, welcome, accepted, answered, step, code_of, code_given, ended, abandon}
use Rattle.states.proofs.Laws.{picked, eq-or-less}
use Rattle.states.proofs.Passes.{put_all, each_keeps, Long, visit-long, grants-long, effect-long}
use Rattle.states.proofs.Memberwise.{passed}

abbrev pub count : Out → ℕ
count o = length o.sent

-- ---- each visit sends one At most
pub visit-count : (a : Pass) (o : Out) (k : ℕ) → count (visit a o k) ≤ suc (count o)
unfolding visit
visit-count a o k = go (a.due (view o.session) k)
  where
    go : (b : Bool) → count (pick b (tell o k (a.becomes (view o.session) k) (a.sends (view o.session) k ∷ [])) o) ≤ suc (count o)
    go true = simp length-append (omega arith)
    go false = omega arith

pub each-count : (f : Out → ℕ → Out) → ((o : Out) (k : ℕ) → count (f o k) ≤ suc (count o)) → (n : ℕ) (o : Out) → count (each f n o) ≤ count o + n
unfolding each
each-count f h zero o = omega arith
each-count f h (suc n) o = omega (arith, h (each f n o) n, each-count f h n o)

-- ---- grants: the asker is not visited again
pub not_own : (p : Net) (k : ℕ) → downstream p k k ≡ false
unfolding downstream
not_own p k = rw (eq-eqb k k refl) (go (ltb (p.minimum k k) _))
  where
    go : (b : Bool) → both b false ≡ false
    go true = refl
    go false = refl

pub below-count : (p : Net) (k : ℕ) (o : Out) (c : ℕ) → count (grant_below p k o c) ≤ suc (count o)
unfolding grant_below
below-count p k o c = picked (λ (x : Out). count x ≤ suc (count o)) (downstream p k c) (visit (granting p) o c) o (visit-count (granting p) o c) (omega arith)

pub below-own : (p : Net) (k : ℕ) (o : Out) → grant_below p k o k ≡ o
unfolding grant_below
below-own p k o = rw (not_own p k)

visits-count : (p : Net) (k : ℕ) (o : Out) (c : ℕ) → (count (each (grant_below p k) c o) ≤ count o + c) × (k < c → suc (count (each (grant_below p k) c o)) ≤ count o + c)
unfolding each
visits-count p k o zero = (omega arith, λ h. absurd (omega arith))
visits-count p k o (suc c) =
    let ih = visits-count p k o c in
    let e = each (grant_below p k) c o in
    (omega (arith, ih.0, below-count p k e c), λ h. ⊎_elim (λ q. here ih q) (λ l. omega (arith, ih.1 l, below-count p k e c)) (eq-or-less k c h))
  where
    here : (count (each (grant_below p k) c o) ≤ count o + c) × (k < c → suc (count (each (grant_below p k) c o)) ≤ count o + c) → k ≡ c → suc (count (grant_below p k (each (grant_below p k) c o) c)) ≤ count o + suc c
    here ih q = omega (arith, ih.0, ap count (subst (λ (z : ℕ). grant_below p k (each (grant_below p k) c o) z ≡ each (grant_below p k) c o) q (below-own p k (each (grant_below p k) c o))))

pub grants-count : (p : Net) (k : ℕ) (o : Out) → k < p.count → count (grants p k o) ≤ count o + p.count
unfolding grants
grants-count p k o l = omega (arith, (visits-count p k (visit (granting p) o k) p.count).1 l, visit-count (granting p) o k)

-- ---- where Idle goes out, no bound does
pub inactive : (b : Bool) (k : Option ℕ) (r : ℕ) → both (not b) (not (mark_is k r)) ≡ false → both (not (is_set k)) (not b) ≡ false
inactive true None r e = refl
inactive true (Some q) r e = refl
inactive false None r e = clash (sym e)
inactive false (Some q) r e = refl

abbrev pub Off : Out → ℕ → Type 0
Off o i = active (view o.session i) ≡ false

idle-off : (p : Net) (o : Out) (k : ℕ) → Long p.count o → k < p.count → Off (visit idling o k) k
unfolding visit
idle-off p o k h l = go (both (not m.stopped) (not (mark_is m.idle (revision_of m.publication)))) refl
  where
    m : Member
    m = view o.session k

    go : (b : Bool) → both (not (view o.session k).stopped) (not (mark_is (view o.session k).idle (revision_of (view o.session k).publication))) ≡ b → Off (visit idling o k) k
    go true e = rw (e, get_or-set_same o.session.members k (with_idle (view o.session k) (revision_of (view o.session k).publication)) blank (omega arith)) refl
    go false e = rw e (inactive (view o.session k).stopped (view o.session k).idle _ e)

idle-keeps-off : (o : Out) (k i : ℕ) → Off o i → Off (visit idling o k) i
unfolding visit
idle-keeps-off o k i h =
    let m = view o.session k in
    let r = revision_of m.publication in
    picked (λ (x : Out). Off x i) (both (not m.stopped) (not (mark_is m.idle r))) _ o (put_all o.session k (with_idle m r) (λ a x. active (view o.session a) ≡ false → active x ≡ false) (λ e. refl) (λ a e. e) i h) h

pub idles-off : (p : Net) (o : Out) → Long p.count o → (c : ℕ) → c ≤ p.count → (i : ℕ) → i < c → Off (each (visit idling) c o) i
unfolding each
idles-off p o h zero l i n = absurd (omega arith)
idles-off p o h (suc c) l i n =
    ⊎_elim
    (λ q. subst (λ (z : ℕ). Off (visit idling (each (visit idling) c o) c) z) (sym q) (idle-off p (each (visit idling) c o) c (each_keeps (Long p.count) (visit idling) (visit-long p.count idling) c o h) l))
    (λ n'. idle-keeps-off (each (visit idling) c o) c i (idles-off p o h c (omega arith) i n'))
    (eq-or-less i c n)

bound-still : (p : Net) (o : Out) (k : ℕ) → Off o k → visit (bounding p) o k ≡ o
unfolding visit
bound-still p o k h = rw h

pub bounds-still : (p : Net) (o : Out) → ((i : ℕ) → i < p.count → Off o i) → (c : ℕ) → c ≤ p.count → each (visit (bounding p)) c o ≡ o
unfolding each
bounds-still p o h zero l = refl
bounds-still p o h (suc c) l = ap (λ (x : Out). visit (bounding p) x c) (bounds-still p o h c (omega arith)) ∙ bound-still p o c (h c l)

-- ---- all passes: At most 2 n more
pub settle-count : (p : Net) (k : ℕ) (o : Out) → Long p.count o → k < p.count → count (follow p k o) ≤ count o + (p.count + p.count)
unfolding idles bounds
settle-count p k o h l = go (every (λ i. at_rest (view (grants p k o).session i)) p.count) refl
  where
    go : (b : Bool) → every (λ i. at_rest (view (grants p k o).session i)) p.count ≡ b → count (follow p k o) ≤ count o + (p.count + p.count)
    go true e =
        rw e
        (omega (
          arith,
          ap count (bounds-still p (each (visit idling) p.count (grants p k o)) (idles-off p (grants p k o) (grants-long p.count p k o h) p.count (omega arith)) p.count (omega arith)),
          each-count (visit idling) (visit-count idling) p.count (grants p k o),
          grants-count p k o l,
        ))
    go false e = rw e (omega (arith, each-count (visit (bounding p)) (visit-count (bounding p)) p.count (grants p k o), grants-count p k o l))

-- ---- the step
pub all-count : (d : ℕ → Delivery) (n : ℕ) → length (to_all d n) ≡ n
unfolding to_all
all-count d zero = refl
all-count d (suc n) = simp length-append (omega (arith, all-count d n))

pub effect-count : (p : Net) (s : Session) (k : ℕ) (q : Request) → count (effect p s k q) ≤ 1
unfolding effect
effect-count p s k (Hello d) = omega arith
effect-count p s k (Publish r e) = omega arith
effect-count p s k (Complete t) = omega arith
effect-count p s k (Payload r t x) = omega arith
effect-count p s k (ConfirmIdle r) = omega arith
effect-count p s k Stop = omega arith
effect-count p s k (Abort c) = omega arith

module _ (p : Net) (s : Session) (h : length s.members ≡ p.count) (k : ℕ) where
  pub full-count : (q : Request) → k < p.count → count (follow p k (effect p s k q)) ≤ 1 + (p.count + p.count)
  full-count q l = omega (arith, effect-count p s k q, settle-count p k (effect p s k q) (effect-long p.count p s k q h) l)

  pub accepted-count : (q : Request) → k < p.count → count (accepted p s k q) ≤ 1 + (p.count + p.count)
  unfolding accepted welcome
  accepted-count (Hello d) l =
      simp length-append
      (omega (arith, effect-count p s k (Hello d), picked (λ (x : List Delivery). length x ≤ p.count) (every (λ i. (view (effect p s k (Hello d)).session i).joined) p.count) (to_all Started p.count) [] (omega (arith, all-count Started p.count)) (omega arith)))
  accepted-count (Publish r e) l = full-count (Publish r e) l
  accepted-count (Complete t) l = full-count (Complete t) l
  accepted-count (Payload r t x) l = full-count (Payload r t x) l
  accepted-count (ConfirmIdle r) l = full-count (ConfirmIdle r) l
  accepted-count Stop l = full-count Stop l
  accepted-count (Abort c) l = omega arith

  -- in any session with as many members as the plan has
  pub step_count : (q : Request) → length (step p s k q).sent ≤ 1 + (p.count + p.count)
  unfolding step answered
  step_count q = picked (λ (x : Out). count x ≤ 1 + (p.count + p.count)) (ltb 0 s.cause) _ _ (omega arith) (go (refusal_of p s k q) refl)
    where
      go : (r : ℕ) → refusal_of p s k q ≡ r → count (answered p s k q r) ≤ 1 + (p.count + p.count)
      go zero e = accepted-count q (leb-false p.count k (passed p s k q e).known)
      go (suc r) e = omega (arith, all-count (λ i. Failed i (suc r) (code_of q)) p.count)

-- so does the owner's abort
pub abandon-count : (p : Net) (s : Session) (code : ℕ) → length (abandon p s code).sent ≤ 1 + (p.count + p.count)
unfolding abandon
abandon-count p s code = omega (arith, all-count (λ k. Failed k (ended s code).cause (code_given (ended s code))) p.count)

-- ---- what is sent stays: a pass never sends less than its turns so far
pub visit-more : (a : Pass) (o : Out) (k : ℕ) → count o ≤ count (visit a o k)
unfolding visit
visit-more a o k = go (a.due (view o.session) k)
  where
    go : (b : Bool) → count o ≤ count (pick b (tell o k (a.becomes (view o.session) k) (a.sends (view o.session) k ∷ [])) o)
    go true = simp length-append (omega arith)
    go false = omega arith

pub below_more : (p : Net) (k : ℕ) (o : Out) (c : ℕ) → count o ≤ count (grant_below p k o c)
unfolding grant_below
below_more p k o c = picked (λ (x : Out). count o ≤ count x) (downstream p k c) (visit (granting p) o c) o (visit-more (granting p) o c) (omega arith)

-- the first c turns of n
pub each_more : (f : Out → ℕ → Out) → ((o : Out) (k : ℕ) → count o ≤ count (f o k)) → (o : Out) (c n : ℕ) → c ≤ n → count (each f c o) ≤ count (each f n o)
each_more f h o c zero l = let z : c ≡ 0 = omega arith in rw z (omega arith)
each_more f h o c (suc n) l = go (leb c n) refl (λ l'. each_more f h o c n l')
  where
    go : (b : Bool) → leb c n ≡ b → (c ≤ n → count (each f c o) ≤ count (each f n o)) → count (each f c o) ≤ count (each f (suc n) o)
    go true e more = unfold each in (omega (arith, more (leb-true c n e), h (each f n o) n))
    go false e more = let z : c ≡ suc n = omega (arith, leb-false c n e) in rw z (omega arith)

pub grants-more : (p : Net) (k : ℕ) (o : Out) → count o ≤ count (grants p k o)
unfolding grants
grants-more p k o = omega (arith, visit-more (granting p) o k, start_of (visit (granting p) o k), each_more (grant_below p k) (below_more p k) (visit (granting p) o k) 0 p.count (omega arith))
  where
    start_of : (x : Out) → count (each (grant_below p k) 0 x) ≡ count x
    start_of x = unfold each in refl

pub idles-more : (p : Net) (o : Out) → count o ≤ count (idles p o)
unfolding idles
idles-more p o =
    picked (λ (x : Out). count o ≤ count x) (every (λ k. at_rest (view o.session k)) p.count) (each (visit idling) p.count o) o
    (omega (arith, start_of o, each_more (visit idling) (visit-more idling) o 0 p.count (omega arith))) (omega arith)
  where
    start_of : (x : Out) → count (each (visit idling) 0 x) ≡ count x
    start_of x = unfold each in refl

pub bounds-more : (p : Net) (o : Out) → count o ≤ count (bounds p o)
unfolding bounds
bounds-more p o = omega (arith, start_of o, each_more (visit (bounding p)) (visit-more (bounding p)) o 0 p.count (omega arith))
  where
    start_of : (x : Out) → count (each (visit (bounding p)) 0 x) ≡ count x
    start_of x = unfold each in refl

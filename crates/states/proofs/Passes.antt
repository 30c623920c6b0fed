-- One record replaced, a pass over members, and the number of records, which stays.
-- Assumes nothing.
use Prim.Native.Nat.{ℕ, zero, suc, ◌<◌}
use mathlib.Core.Path.{◌≡◌}
use mathlib.Core.List.{List, [], ◌∷◌}
use lib.Dec.{ltb}
use lib.ListN.{get_or, set, length, length-set, length-replicate}
use lib.Seq.{get_or-set_same, get_or-set_other}
use Rattle.plans.specs.Nets.{Net, downstream}
use Rattle.states.specs.declared.Request.{Request}
use Rattle.states.specs.declared.Request.TheVariants.{Hello, Publish, Complete, Payload, ConfirmIdle, Stop, Abort}
use Rattle.states.specs.Sessions.{Member, Session, blank, fresh, view, put, with_cause}
use Rattle.states.specs.Steps.{Out, Pass, each, every, refusal_of, effect, visit, granting, grant_below, grants, at_rest, idling, idles, bounding, bounds, follow, welcome, accepted, answered, step, ended, abandon}
use Rattle.states.proofs.Laws.{picked}

-- ---- reading after a replacement
pub put_same : (s : Session) (k : ℕ) (m : Member) → k < length s.members → view (put s k m) k ≡ m
put_same s k m l = get_or-set_same s.members k m blank l

pub put_other : (s : Session) (k : ℕ) (m : Member) (i : ℕ) → (i ≡ k → ⊥) → view (put s k m) i ≡ view s i
put_other s k m i n = get_or-set_other s.members k i m blank n

-- what holds of the new record in its place, and of the old ones, holds of all: also where there is no such place
pub put_all {ℓ} : (s : Session) (k : ℕ) (m : Member) (P : ℕ → Member → Type ℓ) → P k m → ((i : ℕ) → P i (view s i)) → (i : ℕ) → P i (view (put s k m) i)
put_all s k m P new old i = go s.members k i P new old
  where
    go : (l : List Member) (k i : ℕ) (P : ℕ → Member → Type ℓ) → P k m → ((i : ℕ) → P i (get_or l i blank)) → P i (get_or (set l k m) i blank)
    go [] k i P new old = old i
    go (x ∷ l) zero zero P new old = new
    go (x ∷ l) zero (suc i) P new old = old (suc i)
    go (x ∷ l) (suc k) zero P new old = old zero
    go (x ∷ l) (suc k) (suc i) P new old = go l k i (λ a b. P (suc a) b) new (λ a. old (suc a))

-- ---- what every turn keeps, a pass keeps
pub each_keeps {ℓ} : (P : Out → Type ℓ) (f : Out → ℕ → Out) → ((o : Out) (k : ℕ) → P o → P (f o k)) → (n : ℕ) (o : Out) → P o → P (each f n o)
unfolding each
each_keeps P f h zero o q = q
each_keeps P f h (suc n) o q = h (each f n o) n (each_keeps P f h n o q)

-- ---- as many records after as before
abbrev pub Long : ℕ → Out → Type 0
Long n o = length o.session.members ≡ n

pub visit-long : (n : ℕ) (a : Pass) (o : Out) (k : ℕ) → Long n o → Long n (visit a o k)
unfolding visit
visit-long n a o k h = picked (Long n) (a.due (view o.session) k) _ o (simp length-set h) h

pub grants-long : (n : ℕ) (p : Net) (k : ℕ) (o : Out) → Long n o → Long n (grants p k o)
unfolding grants grant_below
grants-long n p k o h =
    each_keeps (Long n) (grant_below p k) (λ x i g. picked (Long n) (downstream p k i) (visit (granting p) x i) x (visit-long n (granting p) x i g) g) p.count
    (visit (granting p) o k) (visit-long n (granting p) o k h)

pub idles-long : (n : ℕ) (p : Net) (o : Out) → Long n o → Long n (idles p o)
unfolding idles
idles-long n p o h =
    picked (Long n) (every (λ k. at_rest (view o.session k)) p.count) (each (visit idling) p.count o) o
    (each_keeps (Long n) (visit idling) (visit-long n idling) p.count o h) h

pub bounds-long : (n : ℕ) (p : Net) (o : Out) → Long n o → Long n (bounds p o)
unfolding bounds
bounds-long n p o h = each_keeps (Long n) (visit (bounding p)) (visit-long n (bounding p)) p.count o h

pub follow-long : (n : ℕ) (p : Net) (k : ℕ) (o : Out) → Long n o → Long n (follow p k o)
follow-long n p k o h = bounds-long n p (idles p (grants p k o)) (idles-long n p (grants p k o) (grants-long n p k o h))

pub effect-long : (n : ℕ) (p : Net) (s : Session) (k : ℕ) (q : Request) → length s.members ≡ n → Long n (effect p s k q)
unfolding effect
effect-long n p s k (Hello d) h = simp length-set h
effect-long n p s k (Publish r e) h = simp length-set h
effect-long n p s k (Complete t) h = simp length-set h
effect-long n p s k (Payload r t x) h = simp length-set h
effect-long n p s k (ConfirmIdle r) h = simp length-set h
effect-long n p s k Stop h = simp length-set h
effect-long n p s k (Abort c) h = h

pub accepted-long : (n : ℕ) (p : Net) (s : Session) (k : ℕ) (q : Request) → length s.members ≡ n → Long n (accepted p s k q)
unfolding accepted welcome
accepted-long n p s k (Hello d) h = effect-long n p s k (Hello d) h
accepted-long n p s k (Publish r e) h = follow-long n p k _ (effect-long n p s k (Publish r e) h)
accepted-long n p s k (Complete t) h = follow-long n p k _ (effect-long n p s k (Complete t) h)
accepted-long n p s k (Payload r t x) h = follow-long n p k _ (effect-long n p s k (Payload r t x) h)
accepted-long n p s k (ConfirmIdle r) h = follow-long n p k _ (effect-long n p s k (ConfirmIdle r) h)
accepted-long n p s k Stop h = follow-long n p k _ (effect-long n p s k Stop h)
accepted-long n p s k (Abort c) h = h

pub step-long : (n : ℕ) (p : Net) (s : Session) (k : ℕ) (q : Request) → length s.members ≡ n → Long n (step p s k q)
unfolding step answered
step-long n p s k q h = picked (Long n) (ltb 0 s.cause) _ _ h (go (refusal_of p s k q))
  where
    go : (r : ℕ) → Long n (answered p s k q r)
    go zero = accepted-long n p s k q h
    go (suc r) = h

pub abandon-long : (n : ℕ) (p : Net) (s : Session) (code : ℕ) → length s.members ≡ n → Long n (abandon p s code)
unfolding abandon ended
abandon-long n p s code h = picked (λ (x : Session). length x.members ≡ n) (ltb 0 s.cause) s (with_cause s 20 code) h h

pub fresh-long : (n identity : ℕ) → length (fresh n identity).members ≡ n
fresh-long n identity = simp length-replicate

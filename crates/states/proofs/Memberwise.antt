-- What every change keeps of one member's record, a step keeps of each member.
-- Assumes nothing.
use Prim.Native.Nat.{ℕ, zero, suc}
use native.Mathlib.Omega.{arith}
use mathlib.Core.Path.{◌≡◌, refl, sym, subst}
use mathlib.Core.Bool.{Bool, true, false}
use lib.Dec.{ltb, leb, eqb}
use lib.ListN.{get_or, replicate, length}
use Rattle.basis.specs.Choice.{pick, not}
use Rattle.tags.specs.declared.Tag.{Tag}
use Rattle.tags.specs.Tags.{greatest_of}
use Rattle.plans.specs.Nets.{Net, downstream}
use Rattle.transit.specs.Tags.{insert, after, full}
use Rattle.std.specs.Prelude.{Option}
use Rattle.states.specs.declared.Request.{Request}
use Rattle.states.specs.declared.Request.TheVariants.{Hello, Publish, Complete, Payload, ConfirmIdle, Stop, Abort}
use Rattle.states.specs.Sessions.{Member, Session, or_never, blank, view, put, with_cause, with_joined, with_grant, with_bound, with_completed, with_transit, with_asked, with_idle, with_stopped}
use Rattle.states.specs.Rules.{is_set, arrivals, completions, horizon}
use Rattle.states.specs.Steps.{finite, any, absent, waiting, running, resting, halted, stop_in, Out, Pass, each, every, or_else, when, is_abort, lifecycle, phase_of, bad_publication, bad_completion, bad_payload, bad_target, route_at, payload_refusal, kind_refusal, refusal_of, publishing, effect, visit, granting, grant_below, grants, at_rest, idling, idles, bounding, bounds, follow, welcome, accepted, answered, step, ended, abandon}
use Rattle.states.specs.Formed.{Fits, FitsNext, FitsRequest}
use Rattle.states.proofs.Laws.{Le, picked, greatest-right, either_false, not_false}
use Rattle.states.proofs.Passes.{put_all, each_keeps}

-- each change of a record, with what its refusals rule out
pub record Kept (p : Net) (Q : ℕ → Member → Type 0) : Type 0 where
  pub born : (i : ℕ) → Q i blank
  pub joins : (i : ℕ) (m : Member) → Q i m → Q i (with_joined m)
  pub publishes : (i : ℕ) (m : Member) (r : ℕ) (e : Option Tag) → FitsNext e → bad_publication m r e ≡ false → Q i m → Q i (publishing m r e)
  pub completes : (i : ℕ) (m : Member) (t : Tag) → Fits t → bad_completion m t ≡ false → Q i m → Q i (with_completed m t (after t m.transit))
  pub receives : (i : ℕ) (m : Member) (t : Tag) → Fits t → finite t ≡ true → bad_target m t ≡ false → full (p.capacity i) t m.transit ≡ false → Q i m → Q i (with_transit m (insert t m.transit))
  pub asks : (i : ℕ) (m : Member) (r : ℕ) → Q i m → Q i (with_asked m r)
  pub stops : (i : ℕ) (m : Member) → is_set m.idle ≡ true → Q i m → Q i (with_stopped m)
  pub gains : (i : ℕ) (m : Member) (r : ℕ) (t : Tag) → Le (or_never m.granted) t → Q i m → Q i (with_grant m r t)
  pub rests : (i : ℕ) (m : Member) (r : ℕ) → Q i m → Q i (with_idle m r)
  pub hears : (i : ℕ) (m : Member) (t : Tag) → Q i m → Q i (with_bound m t)

-- ---- what no refusal says
pub else_zero : (a b : ℕ) → or_else a b ≡ 0 → (a ≡ 0) × (b ≡ 0)
else_zero zero b e = (refl, e)
else_zero (suc a) b e = absurd (omega arith)

pub when-zero : (b : Bool) (r : ℕ) → when b (suc r) ≡ 0 → b ≡ false
when-zero true r e = absurd (omega arith)
when-zero false r e = refl

-- what is known of a request that is not refused
pub record Passed (p : Net) (s : Session) (k : ℕ) (q : Request) : Type 0 where
  pub known : leb p.count k ≡ false
  pub fits : lifecycle q (phase_of p s k) ≡ 0
  pub right : kind_refusal p s k q ≡ 0

pub passed : (p : Net) (s : Session) (k : ℕ) (q : Request) → refusal_of p s k q ≡ 0 → Passed p s k q
unfolding refusal_of
passed p s k q e =
    let a = else_zero (when (is_abort q) 20) (or_else (when (leb p.count k) 21) (or_else (lifecycle q (phase_of p s k)) (kind_refusal p s k q))) e in
    let b = else_zero (when (leb p.count k) 21) (or_else (lifecycle q (phase_of p s k)) (kind_refusal p s k q)) a.1 in
    let c = else_zero (lifecycle q (phase_of p s k)) (kind_refusal p s k q) b.1 in
    record { known = when-zero (leb p.count k) 20 b.0; fits = c.0; right = c.1 }

sound : (m : Member) (d : ℕ) (t : Tag) → bad_payload m d t ≡ false → finite t ≡ true
unfolding bad_payload any
sound m d t e = not_false (finite t) (either_false (not (finite t)) _ e).0

may-stop : (p : Net) (s : Session) (k : ℕ) → stop_in (phase_of p s k) ≡ 0 → is_set (view s k).idle ≡ true
unfolding phase_of
may-stop p s k e = go (not (view s k).joined) (not (every (λ i. (view s i).joined) p.count)) (view s k).stopped (is_set (view s k).idle) e
  where
    go : (a b c d : Bool) → stop_in (pick a absent (pick b waiting (pick c halted (pick d resting running)))) ≡ 0 → d ≡ true
    go true b c d z = absurd (omega arith)
    go false true c d z = absurd (omega arith)
    go false false true d z = absurd (omega arith)
    go false false false true z = refl
    go false false false false z = absurd (omega arith)

-- ---- the passes
module _ (p : Net) (Q : ℕ → Member → Type 0) (law : Kept p Q) where
  abbrev pub All : Session → Type 0
  All s = (i : ℕ) → Q i (view s i)

  abbrev pub AllOut : Out → Type 0
  AllOut o = All o.session

  swap : (s : Session) (k : ℕ) (m : Member) → All s → Q k m → All (put s k m)
  swap s k m h q = put_all s k m Q q h

  pub grows : (v : ℕ → Member) (j : ℕ) → Le (or_never (v j).granted) (horizon p v j)
  unfolding horizon
  grows v j = greatest-right (greatest_of (arrivals p v j) (completions p v j)) (or_never (v j).granted)

  pub visit-all : (a : Pass) → ((v : ℕ → Member) (k : ℕ) → Q k (v k) → Q k (a.becomes v k)) → (o : Out) (k : ℕ) → AllOut o → AllOut (visit a o k)
  unfolding visit
  visit-all a f o k h = picked AllOut (a.due (view o.session) k) _ o (swap o.session k _ h (f (view o.session) k (h k))) h

  pub grant-all : (o : Out) (k : ℕ) → AllOut o → AllOut (visit (granting p) o k)
  grant-all = visit-all (granting p) (λ v k. law.gains k (v k) _ _ (grows v k))

  pub grants-all : (i : ℕ) (o : Out) → AllOut o → AllOut (grants p i o)
  unfolding grants grant_below
  grants-all i o h = each_keeps AllOut (grant_below p i) (λ x k g. picked AllOut (downstream p i k) (visit (granting p) x k) x (grant-all x k g) g) p.count (visit (granting p) o i) (grant-all o i h)

  pub idles-all : (o : Out) → AllOut o → AllOut (idles p o)
  unfolding idles
  idles-all o h =
      picked AllOut (every (λ k. at_rest (view o.session k)) p.count) (each (visit idling) p.count o) o
      (each_keeps AllOut (visit idling) (visit-all idling (λ v k. law.rests k (v k) _)) p.count o h) h

  pub settle-all : (i : ℕ) (o : Out) → AllOut o → AllOut (follow p i o)
  unfolding bounds
  settle-all i o h = each_keeps AllOut (visit (bounding p)) (visit-all (bounding p) (λ v k. law.hears k (v k) _)) p.count (idles p (grants p i o)) (idles-all (grants p i o) (grants-all i o h))

  -- ---- each kind
  pub effect-all : (s : Session) (k : ℕ) (q : Request) → FitsRequest q → Passed p s k q → All s → AllOut (effect p s k q)
  unfolding effect lifecycle kind_refusal payload_refusal
  effect-all s k (Hello d) a g h = swap s k _ h (law.joins k (view s k) (h k))
  effect-all s k (Publish r e) a g h = swap s k _ h (law.publishes k (view s k) r e a (when-zero (bad_publication (view s k) r e) 23 g.right) (h k))
  effect-all s k (Complete t) a g h = swap s k _ h (law.completes k (view s k) t a (when-zero (bad_completion (view s k) t) 24 g.right) (h k))
  effect-all s k (Payload r t x) a g h = swap s j _ h (law.receives j (view s j) t a (is_finite w.0) (when-zero bad 28 w.1) (when-zero over 29 w.2) (h j))
    where
      j : ℕ
      j = (route_at p r).target

      bad : Bool
      bad = bad_target (view s (route_at p r).target) t

      over : Bool
      over = full (p.capacity (route_at p r).target) t (view s (route_at p r).target).transit

      w : (when (bad_payload (view s k) (route_at p r).delay t) 28 ≡ 0) × (when (bad_target (view s (route_at p r).target) t) 29 ≡ 0) × (when (full (p.capacity (route_at p r).target) t (view s (route_at p r).target).transit) 30 ≡ 0)
      w =
          let z5 = when (full (p.capacity (route_at p r).target) t (view s (route_at p r).target).transit) 30 in
          let z4 = when (bad_target (view s (route_at p r).target) t) 29 in
          let z3 = when (bad_payload (view s k) (route_at p r).delay t) 28 in
          let z2 = when (not (eqb (route_at p r).source k)) 27 in
          let z1 = when (leb (length p.routes) r) 26 in
          let u = else_zero z3 (or_else z4 z5) (else_zero z2 (or_else z3 (or_else z4 z5)) (else_zero z1 (or_else z2 (or_else z3 (or_else z4 z5))) g.right).1).1 in
          let x = else_zero z4 z5 u.1 in
          (u.0, x.0, x.1)

      is_finite : when (bad_payload (view s k) (route_at p r).delay t) 28 ≡ 0 → finite t ≡ true
      is_finite z = sound (view s k) (route_at p r).delay t (when-zero (bad_payload (view s k) (route_at p r).delay t) 27 z)
  effect-all s k (ConfirmIdle r) a g h = swap s k _ h (law.asks k (view s k) r (h k))
  effect-all s k Stop a g h = swap s k _ h (law.stops k (view s k) (may-stop p s k g.fits) (h k))
  effect-all s k (Abort c) a g h = h

  pub accepted-all : (s : Session) (k : ℕ) (q : Request) → FitsRequest q → Passed p s k q → All s → AllOut (accepted p s k q)
  unfolding accepted welcome
  accepted-all s k (Hello d) a g h = effect-all s k (Hello d) a g h
  accepted-all s k (Publish r e) a g h = settle-all k (effect p s k (Publish r e)) (effect-all s k (Publish r e) a g h)
  accepted-all s k (Complete t) a g h = settle-all k (effect p s k (Complete t)) (effect-all s k (Complete t) a g h)
  accepted-all s k (Payload r t x) a g h = settle-all k (effect p s k (Payload r t x)) (effect-all s k (Payload r t x) a g h)
  accepted-all s k (ConfirmIdle r) a g h = settle-all k (effect p s k (ConfirmIdle r)) (effect-all s k (ConfirmIdle r) a g h)
  accepted-all s k Stop a g h = settle-all k (effect p s k Stop) (effect-all s k Stop a g h)
  accepted-all s k (Abort c) a g h = h

  pub step-all : (s : Session) (k : ℕ) (q : Request) → FitsRequest q → All s → All (step p s k q).session
  unfolding step answered
  step-all s k q a h = picked AllOut (ltb 0 s.cause) _ _ h (go (refusal_of p s k q) refl)
    where
      go : (r : ℕ) → refusal_of p s k q ≡ r → AllOut (answered p s k q r)
      go zero e = accepted-all s k q a (passed p s k q e) h
      go (suc r) e = h

  pub fresh-all : (n i : ℕ) → Q i (get_or (replicate n blank) i blank)
  fresh-all n i = subst (λ (m : Member). Q i m) (sym (blanks n i)) (law.born i)
    where
      blanks : (n i : ℕ) → get_or (replicate n blank) i blank ≡ blank
      blanks zero i = refl
      blanks (suc n) zero = refl
      blanks (suc n) (suc i) = blanks n i

  pub abandon-all : (s : Session) (code : ℕ) → All s → All (abandon p s code).session
  unfolding abandon ended
  abandon-all s code h = picked All (ltb 0 s.cause) s (with_cause s 20 code) h h

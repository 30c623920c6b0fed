-- The passes of a step are 01's rules.
-- Assumes nothing.
use Prim.Native.Nat.{ℕ, zero, suc, ◌<◌}
use native.Mathlib.Omega.{arith}
use mathlib.Core.Path.{◌≡◌, refl, sym, ap, ap₂, subst, ◌∙◌}
use mathlib.Core.Bool.{Bool, true, false}
use mathlib.Core.Logic.{⊎_elim}
use mathlib.Core.List.{List, [], ◌∷◌, ◌++◌, append_assoc}
use lib.Dec.{eqb}
use lib.ListN.{length}
use borrow.Author.Tests.{leb-false, le-ltb, eq-eqb, ne_eqb}
use Rattle.basis.specs.Choice.{pick, both, either}
use Rattle.tags.proofs.Order.{clash}
use Rattle.plans.specs.Nets.{Net, downstream}
use Rattle.states.specs.declared.Delivery.{Delivery}
use Rattle.states.specs.declared.Delivery.TheVariants.{Idle}
use Rattle.states.specs.Sessions.{Member, Session, view, with_grant, with_idle}
use Rattle.states.specs.Rules.{horizon, revision_of}
use Rattle.states.specs.Steps.{Out, tell, each, every, visit, granting, grant_below, grants, at_rest, idling, idles, bounding, bounds, follow, refusal_of, effect, welcome, accepted, answered, step}
use Rattle.states.proofs.Laws.{picked, which}
use Rattle.states.proofs.Passes.{put_same, put_other, Long, visit-long, effect-long}
use Rattle.states.proofs.Counts.{not_own}
use Rattle.states.proofs.Memberwise.{passed}
use Rattle.states.specs.declared.Request.{Request}
use Rattle.states.specs.declared.Request.TheVariants.{Hello, Publish, Complete, Payload, ConfirmIdle, Stop, Abort}
use Rattle.demands.specs.Rules.{to_each, grant_due, grant_to, grants_sent, after_grants, all_rest, idle_due, idles_sent, after_idles, bound_due, bounds_sent, after_bounds, Followed, Welcomed}
use Rattle.demands.specs.Refusals.{is_hello}
use Rattle.demands.proofs.Turns.{Near, near-itself, near_of, horizon-near, bound-near, granting-local, idling-local, bounding-local, Frame, turned, append_none, turns}

-- ---- what a pass leaves: deliveries added, members as they become, nothing else changed
pub record Done (p : Net) (o x : Out) (added : List Delivery) (w : ℕ → Member) : Type 0 where
  pub sent : x.sent ≡ o.sent ++ added
  pub members : (j : ℕ) → j < p.count → view x.session j ≡ w j
  pub long : Long p.count x
  pub frame : Frame o.session x.session

to_same : (d d' : ℕ → Bool) (s s' : ℕ → Delivery) (n : ℕ) → ((k : ℕ) → k < n → d' k ≡ d k) → ((k : ℕ) → k < n → d k ≡ true → s' k ≡ s k) → to_each d' s' n ≡ to_each d s n
unfolding to_each
to_same d d' s s' zero f g = refl
to_same d d' s s' (suc n) f g = ap₂ (λ (x y : List Delivery). x ++ y) (to_same d d' s s' n (λ k l. f k (omega arith)) (λ k l. g k (omega arith))) (last (d n) refl)
  where
    last : (b : Bool) → d n ≡ b → pick (d' n) (s' n ∷ []) [] ≡ pick (d n) (s n ∷ []) []
    last true e = rw (f n (omega arith), e, g n (omega arith) e)
    last false e = rw (f n (omega arith), e)

to_none : (d : ℕ → Bool) (s : ℕ → Delivery) (n : ℕ) → ((k : ℕ) → d k ≡ false) → to_each d s n ≡ []
unfolding to_each
to_none d s zero f = refl
to_none d s (suc n) f = rw (to_none d s n f, f n)

every-same : (f g : ℕ → Bool) (n : ℕ) → ((k : ℕ) → k < n → g k ≡ f k) → every g n ≡ every f n
unfolding every
every-same f g zero h = refl
every-same f g (suc n) h = ap₂ both (every-same f g n (λ k l. h k (omega arith))) (h n (omega arith))

-- ---- grants: the asker's turn, then the others'
module _ (p : Net) (i : ℕ) (l : i < p.count) (o : Out) (long : Long p.count o) where
  abbrev u : ℕ → Member
  u = view o.session

  abbrev asker : Out
  asker = visit (granting p) o i

  asker-sent : asker.sent ≡ o.sent ++ pick (grant_due p u i) (grant_to p u i ∷ []) []
  unfolding visit
  asker-sent = go (grant_due p u i)
    where
      go : (b : Bool) → (pick b (tell o i (with_grant (view o.session i) (revision_of (view o.session i).publication) (horizon p (view o.session) i)) (grant_to p (view o.session) i ∷ [])) o).sent ≡ o.sent ++ pick b (grant_to p (view o.session) i ∷ []) []
      go true = refl
      go false = sym (append_none o.sent)

  asker-other : (j : ℕ) → (j ≡ i → ⊥) → view asker.session j ≡ u j
  unfolding visit
  asker-other j n = picked (λ (x : Out). view x.session j ≡ view o.session j) (grant_due p u i) _ o (put_other o.session i _ j n) refl

  asker-own : view asker.session i ≡ pick (grant_due p u i) (with_grant (u i) (revision_of (u i).publication) (horizon p u i)) (u i)
  unfolding visit
  asker-own = go (grant_due p u i)
    where
      go : (b : Bool) → view (pick b (tell o i (with_grant (view o.session i) (revision_of (view o.session i).publication) (horizon p (view o.session) i)) (grant_to p (view o.session) i ∷ [])) o).session i ≡ pick b (with_grant (view o.session i) (revision_of (view o.session i).publication) (horizon p (view o.session) i)) (view o.session i)
      go true = put_same o.session i _ (omega arith)
      go false = refl

  asker-near : (k : ℕ) → k < p.count → Near (u k) (view asker.session k)
  asker-near k m =
      ⊎_elim
      (λ q. subst (λ (z : ℕ). Near (u z) (view asker.session z)) (sym q) (rw asker-own (picked (λ (x : Member). Near (u i) x) (grant_due p u i) (with_grant (u i) (revision_of (u i).publication) (horizon p u i)) (u i) ((granting-local p).keeps u i) (near-itself (u i)))))
      (λ n. near_of (asker-other k n))
      (which k i)

  abbrev g : ℕ → Member
  g = view asker.session

  -- who is downstream is another, and so still as before
  below_other : (j : ℕ) → downstream p i j ≡ true → j ≡ i → ⊥
  below_other j e q = clash (sym (not_own p i) ∙ (rw q at e))

  below-due : (j : ℕ) → both (downstream p i j) (grant_due p g j) ≡ both (downstream p i j) (grant_due p u j)
  below-due j = go (downstream p i j) refl
    where
      go : (b : Bool) → downstream p i j ≡ b → both (downstream p i j) (grant_due p (view asker.session) j) ≡ both (downstream p i j) (grant_due p (view o.session) j)
      go true e = ap (both (downstream p i j)) ((granting-local p).due u g asker-near j (asker-other j (below_other j e)))
      go false e = rw e

  both_left : (a b : Bool) → both a b ≡ true → a ≡ true
  both_left true b e = refl
  both_left false b e = clash e

  below-sends : (j : ℕ) → both (downstream p i j) (grant_due p u j) ≡ true → grant_to p g j ≡ grant_to p u j
  below-sends j e = (granting-local p).sends u g asker-near j (asker-other j (below_other j (both_left (downstream p i j) (grant_due p u j) e)))

  below-member : (j : ℕ) → j < p.count → turned (granting p) (downstream p i) g j ≡ after_grants p i u j
  unfolding after_grants
  below-member j m = ⊎_elim own other (which j i)
    where
      own : j ≡ i → turned (granting p) (downstream p i) (view asker.session) j ≡ pick (both (either (eqb j i) (downstream p i j)) (grant_due p (view o.session) j)) (with_grant (view o.session j) (revision_of (view o.session j).publication) (horizon p (view o.session) j)) (view o.session j)
      own q =
          subst (λ (z : ℕ). turned (granting p) (downstream p i) (view asker.session) z ≡ pick (both (either (eqb z i) (downstream p i z)) (grant_due p (view o.session) z)) (with_grant (view o.session z) (revision_of (view o.session z).publication) (horizon p (view o.session) z)) (view o.session z)) (sym q)
          (rw (not_own p i, eq-eqb i i refl) asker-own)

      other : (j ≡ i → ⊥) → turned (granting p) (downstream p i) (view asker.session) j ≡ pick (both (either (eqb j i) (downstream p i j)) (grant_due p (view o.session) j)) (with_grant (view o.session j) (revision_of (view o.session j).publication) (horizon p (view o.session) j)) (view o.session j)
      other n =
          rw (ne_eqb j i n, below-due j, asker-other j n, horizon-near p u g asker-near j (asker-other j n))

  pub grants-rule : Done p o (grants p i o) (grants_sent p i u) (after_grants p i u)
  unfolding grants grants_sent grant_below
  grants-rule =
      let h = turns p (granting p) (granting-local p) (downstream p i) asker (visit-long p.count (granting p) o i long) p.count (omega arith) in
      record {
        sent = h.sent ∙ (ap₂ (λ (x y : List Delivery). x ++ y) asker-sent (to_same (λ j. both (downstream p i j) (grant_due p u j)) (λ j. both (downstream p i j) (grant_due p g j)) (grant_to p u) (grant_to p g) p.count (λ k m. below-due k) (λ k m e. below-sends k e)) ∙ append_assoc o.sent (pick (grant_due p u i) (grant_to p u i ∷ []) []) (to_each (λ j. both (downstream p i j) (grant_due p u j)) (grant_to p u) p.count));
        members = λ j m. h.new j m ∙ below-member j m;
        long = h.long;
        frame = framed h.frame;
      }
    where
      framed : Frame asker.session (each (λ x j. pick (downstream p i j) (visit (granting p) x j) x) p.count asker).session → Frame o.session (each (λ x j. pick (downstream p i j) (visit (granting p) x j) x) p.count asker).session
      framed f = record { identity = f.identity ∙ start.identity; cause = f.cause ∙ start.cause; code = f.code ∙ start.code }
        where
          start : Frame o.session asker.session
          start = unfold visit in (picked (λ (x : Out). Frame o.session x.session) (grant_due p (view o.session) i) _ o record { identity = refl; cause = refl; code = refl } record { identity = refl; cause = refl; code = refl })

-- ---- idles
pub idles-rule : (p : Net) (o : Out) → Long p.count o → Done p o (idles p o) (idles_sent p (view o.session)) (after_idles p (view o.session))
unfolding idles idles_sent after_idles
idles-rule p o long = go (all_rest p (view o.session)) refl
  where
    go : (b : Bool) → all_rest p (view o.session) ≡ b
        → Done p o (pick (all_rest p (view o.session)) (each (visit idling) p.count o) o) (to_each (idle_due p (view o.session)) (λ j. Idle j (revision_of (view o.session j).publication)) p.count)
        (λ j. pick (idle_due p (view o.session) j) (with_idle (view o.session j) (revision_of (view o.session j).publication)) (view o.session j))
    go true e =
        let h = turns p idling (idling-local p) (λ j. true) o long p.count (omega arith) in
        let d = idling.due (view o.session) in
        let f = idling.sends (view o.session) in
        record {
          sent = simp e (h.sent ∙ ap (λ (x : List Delivery). o.sent ++ x) (to_same (idle_due p (view o.session)) d f f p.count (λ k l. rw e) (λ k l z. refl)));
          members = λ j m. simp e (h.new j m);
          long = simp e h.long;
          frame = simp e h.frame;
        }
    go false e =
        record {
          sent = simp e (sym (ap (λ (x : List Delivery). o.sent ++ x) (to_none (idle_due p (view o.session)) (λ j. Idle j (revision_of (view o.session j).publication)) p.count (λ k. rw e)) ∙ append_none o.sent));
          members = λ j m. simp e;
          long = simp e long;
          frame = simp e record { identity = refl; cause = refl; code = refl };
        }

-- ---- bounds
pub bounds-rule : (p : Net) (o : Out) → Long p.count o → Done p o (bounds p o) (bounds_sent p (view o.session)) (after_bounds p (view o.session))
unfolding bounds bounds_sent after_bounds
bounds-rule p o long =
    let h = turns p (bounding p) (bounding-local p) (λ j. true) o long p.count (omega arith) in
    record { sent = h.sent; members = h.new; long = h.long; frame = h.frame }

-- ---- rules read only the members that there are
module _ (p : Net) (v v' : ℕ → Member) (same : (k : ℕ) → k < p.count → v' k ≡ v k) where
  all_near : (k : ℕ) → k < p.count → Near (v k) (v' k)
  all_near k l = near_of (same k l)

  idle-same : (j : ℕ) → j < p.count → idle_due p v' j ≡ idle_due p v j
  idle-same j l = ap₂ both (every-same (λ k. at_rest (v k)) (λ k. at_rest (v' k)) p.count (λ k m. ap at_rest (same k m))) ((idling-local p).due v v' all_near j (same j l))

  idles-sent-same : idles_sent p v' ≡ idles_sent p v
  unfolding idles_sent
  idles-sent-same = to_same (idle_due p v) (idle_due p v') _ _ p.count idle-same (λ k l e. (idling-local p).sends v v' all_near k (same k l))

  idles-after-same : (j : ℕ) → j < p.count → after_idles p v' j ≡ after_idles p v j
  unfolding after_idles
  idles-after-same j l = rw (idle-same j l, same j l)

  bound-same : (j : ℕ) → j < p.count → bound_due p v' j ≡ bound_due p v j
  bound-same j l = (bounding-local p).due v v' all_near j (same j l)

  bounds-sent-same : bounds_sent p v' ≡ bounds_sent p v
  unfolding bounds_sent
  bounds-sent-same = to_same (bound_due p v) (bound_due p v') _ _ p.count bound-same (λ k l e. (bounding-local p).sends v v' all_near k (same k l))

  bounds-after-same : (j : ℕ) → j < p.count → after_bounds p v' j ≡ after_bounds p v j
  unfolding after_bounds
  bounds-after-same j l = rw (bound-same j l, same j l, bound-near p v v' all_near j)

-- ---- all that follows a request
pub followed : (p : Net) (i : ℕ) → i < p.count → (o : Out) → Long p.count o → Followed p i o (follow p i o)
followed p i l o long =
    record {
      sent =
          c.sent
          ∙ (ap₂ (λ (x y : List Delivery). x ++ y) (b.sent ∙ ap₂ (λ (x y : List Delivery). x ++ y) a.sent (idles-sent-same p v1 w1 a.members)) (bounds-sent-same p v2 w2 to-v2)
          ∙ rejoin o.sent (grants_sent p i v0) (idles_sent p v1) (bounds_sent p v2));
      members = λ j m. c.members j m ∙ bounds-after-same p v2 w2 to-v2 j m;
      count = c.long;
      identity = c.frame.identity ∙ (b.frame.identity ∙ a.frame.identity);
      cause = c.frame.cause ∙ (b.frame.cause ∙ a.frame.cause);
      code = c.frame.code ∙ (b.frame.code ∙ a.frame.code);
    }
  where
    v0 : ℕ → Member
    v0 = view o.session

    v1 : ℕ → Member
    v1 = after_grants p i (view o.session)

    v2 : ℕ → Member
    v2 = after_idles p (after_grants p i (view o.session))

    w1 : ℕ → Member
    w1 = view (grants p i o).session

    w2 : ℕ → Member
    w2 = view (idles p (grants p i o)).session

    a : Done p o (grants p i o) (grants_sent p i (view o.session)) (after_grants p i (view o.session))
    a = grants-rule p i l o long

    b : Done p (grants p i o) (idles p (grants p i o)) (idles_sent p (view (grants p i o).session)) (after_idles p (view (grants p i o).session))
    b = idles-rule p (grants p i o) a.long

    c : Done p (idles p (grants p i o)) (bounds p (idles p (grants p i o))) (bounds_sent p (view (idles p (grants p i o)).session)) (after_bounds p (view (idles p (grants p i o)).session))
    c = bounds-rule p (idles p (grants p i o)) b.long

    to-v2 : (k : ℕ) → k < p.count → view (idles p (grants p i o)).session k ≡ after_idles p (after_grants p i (view o.session)) k
    to-v2 k m = b.members k m ∙ idles-after-same p (after_grants p i (view o.session)) (view (grants p i o).session) a.members k m

    rejoin : (x y z t : List Delivery) → ((x ++ y) ++ z) ++ t ≡ x ++ (y ++ (z ++ t))
    rejoin x y z t = simp append_assoc

-- Demand 2 for a request other than Hello that is taken: its own change, then 01's rules
pub taken-follows : (p : Net) (s : Session) (i : ℕ) (q : Request) → length s.members ≡ p.count → s.cause ≡ 0 → refusal_of p s i q ≡ 0 → is_hello q ≡ false
    → Followed p i (effect p s i q) (step p s i q)
unfolding step answered accepted
taken-follows p s i q long going none other = rw (le-ltb 0 s.cause (omega arith), none) (go q other (effect-long p.count p s i q long) none)
  where
    inside : (x : Request) → refusal_of p s i x ≡ 0 → i < p.count
    inside x e = leb-false p.count i (passed p s i x e).known

    go : (x : Request) → is_hello x ≡ false → Long p.count (effect p s i x) → refusal_of p s i x ≡ 0 → Followed p i (effect p s i x) (accepted p s i x)
    go (Hello d) e h z = clash (sym e)
    go (Publish r n) e h z = followed p i (inside (Publish r n) z) (effect p s i (Publish r n)) h
    go (Complete t) e h z = followed p i (inside (Complete t) z) (effect p s i (Complete t)) h
    go (Payload k t x) e h z = followed p i (inside (Payload k t x) z) (effect p s i (Payload k t x)) h
    go (ConfirmIdle r) e h z = followed p i (inside (ConfirmIdle r) z) (effect p s i (ConfirmIdle r)) h
    go Stop e h z = followed p i (inside Stop z) (effect p s i Stop) h
    go (Abort c) e h z = absurd (aborts z)
      where
        aborts : refusal_of p s i (Abort c) ≡ 0 → ⊥
        aborts y = unfold refusal_of in (omega (arith, y))

pub taken_welcomes : (p : Net) (s : Session) (i d : ℕ) → s.cause ≡ 0 → refusal_of p s i (Hello d) ≡ 0 → Welcomed p s i (step p s i (Hello d))
unfolding step answered accepted welcome effect
taken_welcomes p s i d going taken = rw (le-ltb 0 s.cause (omega arith), taken) record { session = refl; sent = refl }

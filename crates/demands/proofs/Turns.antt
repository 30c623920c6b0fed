-- A pass in turns: what one member is sent changes nothing for another, so all are judged at once.
-- Assumes nothing.
use Prim.Native.Nat.{ℕ, zero, suc, ◌<◌, ◌≤◌}
use native.Mathlib.Omega.{arith}
use mathlib.Core.Path.{◌≡◌, refl, sym, ap, ap₂, subst, ◌∙◌}
use mathlib.Core.Bool.{Bool, true, false}
use Rattle.std.proofs.Common.{Option}
use Rattle.states.specs.declared.Publication.{Publication}
use mathlib.Core.Logic.{⊎_elim}
use mathlib.Core.List.{List, [], ◌∷◌, ◌++◌, append_assoc}
use lib.Dec.{ltb}
use lib.ListN.{length-set}
use borrow.Author.Tests.{ltb-true, ltb-false}
use Rattle.basis.specs.Choice.{pick, not, both}
use Rattle.tags.specs.declared.Tag.{Tag}
use Rattle.tags.specs.declared.Tag.TheVariants.{Forever}
use Rattle.tags.specs.Tags.{least_of, less_of}
use Rattle.plans.specs.Nets.{Net, downstream}
use Rattle.transit.specs.Tags.{first_of}
use Rattle.states.specs.declared.Delivery.TheVariants.{Grant, Idle, Suppress}
use Rattle.states.specs.Sessions.{Member, Session, or_never, view, put, with_grant, with_bound, with_idle}
use Rattle.states.specs.Rules.{mark_is, active, awaited, earliest, over, past, horizon, due, revision_of, bound_of, useful}
use Rattle.states.specs.Steps.{Out, Pass, tell, each, visit, granting, idling, bounding}
use Rattle.states.proofs.Laws.{picked, least-same, eq-or-less}
use Rattle.states.proofs.Passes.{put_same, put_other, Long}
use Rattle.demands.proofs.Horizons.{horizon-same}
use Rattle.demands.specs.Rules.{to_each}

-- ---- what others read of a member
pub record Near (m m' : Member) : Type 0 where
  pub publication : m'.publication ≡ m.publication
  pub transit : m'.transit ≡ m.transit
  pub completed : m'.completed ≡ m.completed

pub near-itself : (m : Member) → Near m m
near-itself m = record { publication = refl; transit = refl; completed = refl }

pub near_of : {m m' : Member} → m' ≡ m → Near m m'
near_of {m} e = rw e (near-itself m)

pub earliest-near : {m m' : Member} → Near m m' → earliest m' ≡ earliest m
unfolding earliest
earliest-near {m} {m'} h = ap₂ (λ (x : Option Publication) (y : List Tag). least_of (awaited x) (first_of y)) h.publication h.transit

module _ (p : Net) (v v' : ℕ → Member) (h : (k : ℕ) → k < p.count → Near (v k) (v' k)) where
  pub horizon-near : (j : ℕ) → v' j ≡ v j → horizon p v' j ≡ horizon p v j
  horizon-near j e =
      horizon-same p v v' j (λ i l. ap (over (p.minimum i j)) (earliest-near (h i l)))
      (λ i l. ap (λ (x : Option Tag). past (p.direct i j) (or_never x)) (h i l).completed) e

  pub bound-near : (j : ℕ) → bound_of p v' j ≡ bound_of p v j
  unfolding bound_of
  bound-near j =
      least-same p.count (λ k. pick (downstream p j k) (less_of (earliest (v' k)) (p.minimum j k)) Forever) (λ k. pick (downstream p j k) (less_of (earliest (v k)) (p.minimum j k)) Forever)
      (λ k l. ap (λ (x : Tag). pick (downstream p j k) (less_of x (p.minimum j k)) Forever) (earliest-near (h k l)))

-- ---- a pass that judges a member by its own record and by what others read
pub record Local (p : Net) (a : Pass) : Type 0 where
  pub keeps : (v : ℕ → Member) (j : ℕ) → Near (v j) (a.becomes v j)
  pub due : (v v' : ℕ → Member) → ((k : ℕ) → k < p.count → Near (v k) (v' k)) → (j : ℕ) → v' j ≡ v j → a.due v' j ≡ a.due v j
  pub becomes : (v v' : ℕ → Member) → ((k : ℕ) → k < p.count → Near (v k) (v' k)) → (j : ℕ) → v' j ≡ v j → a.becomes v' j ≡ a.becomes v j
  pub sends : (v v' : ℕ → Member) → ((k : ℕ) → k < p.count → Near (v k) (v' k)) → (j : ℕ) → v' j ≡ v j → a.sends v' j ≡ a.sends v j

pub granting-local : (p : Net) → Local p (granting p)
granting-local p =
    record {
      keeps = λ v j. record { publication = refl; transit = refl; completed = refl };
      due = λ v v' h j e. ap₂ (λ (m : Member) (t : Tag). due m.publication m t) e (horizon-near p v v' h j e);
      becomes = λ v v' h j e. ap₂ (λ (m : Member) (t : Tag). with_grant m (revision_of m.publication) t) e (horizon-near p v v' h j e);
      sends = λ v v' h j e. ap₂ (λ (m : Member) (t : Tag). Grant j (revision_of m.publication) t) e (horizon-near p v v' h j e);
    }

pub idling-local : (p : Net) → Local p idling
idling-local p =
    record {
      keeps = λ v j. record { publication = refl; transit = refl; completed = refl };
      due = λ v v' h j e. ap (λ (m : Member). both (not m.stopped) (not (mark_is m.idle (revision_of m.publication)))) e;
      becomes = λ v v' h j e. ap (λ (m : Member). with_idle m (revision_of m.publication)) e;
      sends = λ v v' h j e. ap (λ (m : Member). Idle j (revision_of m.publication)) e;
    }

pub bounding-local : (p : Net) → Local p (bounding p)
bounding-local p =
    record {
      keeps = λ v j. record { publication = refl; transit = refl; completed = refl };
      due = λ v v' h j e. ap₂ (λ (m : Member) (t : Tag). both (active m) (useful m.publication (or_never m.bound) t)) e (bound-near p v v' h j);
      becomes = λ v v' h j e. ap₂ (λ (m : Member) (t : Tag). with_bound m t) e (bound-near p v v' h j);
      sends = λ v v' h j e. ap (λ (t : Tag). Suppress j t) (bound-near p v v' h j);
    }

-- ---- a pass in turns
-- nothing but members and deliveries changes
pub record Frame (s s' : Session) : Type 0 where
  pub identity : s'.identity ≡ s.identity
  pub cause : s'.cause ≡ s.cause
  pub code : s'.code ≡ s.code

-- the members after c turns of a pass that visits those who pass t
abbrev pub turned : Pass → (ℕ → Bool) → (ℕ → Member) → ℕ → Member
turned a t v j = pick (both (t j) (a.due v j)) (a.becomes v j) (v j)

pub record Turned (p : Net) (a : Pass) (t : ℕ → Bool) (o : Out) (c : ℕ) (x : Out) : Type 0 where
  pub sent : x.sent ≡ o.sent ++ to_each (λ j. both (t j) (a.due (view o.session) j)) (a.sends (view o.session)) c
  pub old : (j : ℕ) → c ≤ j → view x.session j ≡ view o.session j
  pub new : (j : ℕ) → j < c → view x.session j ≡ turned a t (view o.session) j
  pub long : Long p.count x
  pub frame : Frame o.session x.session

pub append_none : {A : Type 0} (l : List A) → l ++ [] ≡ l
append_none [] = refl
append_none {A = A} (x ∷ l) = ap (λ (y : List A). x ∷ y) (append_none l)

module _ (p : Net) (a : Pass) (law : Local p a) (t : ℕ → Bool) (o : Out) where
  abbrev v : ℕ → Member
  v = view o.session

  near : (c : ℕ) (x : Out) → Turned p a t o c x → (k : ℕ) → Near (v k) (view x.session k)
  near c x h k = go (ltb k c) refl
    where
      go : (b : Bool) → ltb k c ≡ b → Near (view o.session k) (view x.session k)
      go true e = rw (h.new k (ltb-true k c e)) (picked (λ (m : Member). Near (view o.session k) m) (both (t k) (a.due (view o.session) k)) (a.becomes (view o.session) k) (view o.session k) (law.keeps (view o.session) k) (near-itself (view o.session k)))
      go false e = near_of (h.old k (ltb-false k c e))

  -- a turn that does nothing
  still : (c : ℕ) (x : Out) → both (t c) (a.due v c) ≡ false → Turned p a t o c x → Turned p a t o (suc c) x
  unfolding to_each
  still c x e h =
      record {
        sent = rw (e, append_none (to_each (λ j. both (t j) (a.due v j)) (a.sends v) c)) h.sent;
        old = λ j l. h.old j (omega arith);
        new = λ j l. ⊎_elim (λ q. subst (λ (z : ℕ). view x.session z ≡ turned a t v z) (sym q) (h.old c (omega arith) ∙ idle)) (λ l'. h.new j l') (eq-or-less j c l);
        long = h.long;
        frame = h.frame;
      }
    where
      idle : view o.session c ≡ turned a t (view o.session) c
      idle = rw e

  -- a turn that sends
  sends : (c : ℕ) (x : Out) → c < p.count → both (t c) (a.due v c) ≡ true → Turned p a t o c x
      → Turned p a t o (suc c) (tell x c (a.becomes (view x.session) c) (a.sends (view x.session) c ∷ []))
  unfolding to_each
  sends c x l e h =
      let w = view x.session in
      let n : (k : ℕ) → k < p.count → Near (v k) (w k) = λ k i. near c x h k in
      let own : w c ≡ v c = h.old c (omega arith) in
      let b : a.becomes w c ≡ a.becomes v c = law.becomes v w n c own in
      record {
        sent = rw (e, law.sends v w n c own, h.sent, append_assoc);
        old = λ j m. put_other x.session c (a.becomes w c) j (λ q. omega arith) ∙ h.old j (omega arith);
        new = λ j m. ⊎_elim (λ q. subst (λ (z : ℕ). view (put x.session c (a.becomes w c)) z ≡ turned a t v z) (sym q) (put_same x.session c (a.becomes w c) (omega (arith, h.long)) ∙ (b ∙ busy))) (λ l'. put_other x.session c (a.becomes w c) j (λ q. omega arith) ∙ h.new j l') (eq-or-less j c m);
        long = simp length-set h.long;
        frame = record { identity = h.frame.identity; cause = h.frame.cause; code = h.frame.code };
      }
    where
      busy : a.becomes (view o.session) c ≡ turned a t (view o.session) c
      busy = rw e

  turn : (c : ℕ) (x : Out) → c < p.count → Turned p a t o c x → Turned p a t o (suc c) (pick (t c) (visit a x c) x)
  unfolding visit
  turn c x l h = go (t c) (a.due v c) refl refl
    where
      same : a.due (view x.session) c ≡ a.due (view o.session) c
      same = law.due (view o.session) (view x.session) (λ k i. near c x h k) c (h.old c (omega arith))

      go : (y z : Bool) → t c ≡ y → a.due (view o.session) c ≡ z → Turned p a t o (suc c) (pick (t c) (visit a x c) x)
      go false z e f = rw e (still c x (rw e) h)
      go true false e f = rw (e, same, f) (still c x (rw (e, f)) h)
      go true true e f = rw (e, same, f) (sends c x l (rw (e, f)) h)

  first-turn : Long p.count o → Turned p a t o 0 o
  unfolding to_each
  first-turn h =
      record {
        sent = sym (append_none o.sent);
        old = λ j l. refl;
        new = λ j l. absurd (omega arith);
        long = h;
        frame = record { identity = refl; cause = refl; code = refl };
      }

  pub turns : Long p.count o → (c : ℕ) → c ≤ p.count → Turned p a t o c (each (λ x j. pick (t j) (visit a x j) x) c o)
  unfolding each
  turns h zero l = first-turn h
  turns h (suc c) l = turn c (each (λ x j. pick (t j) (visit a x j) x) c o) l (turns h c (omega arith))

-- The passes after a request: grants settle the asker and its downstream; idles and bounds disturb nobody.
-- Assumes nothing.
use Prim.Native.Nat.{ℕ, zero, suc, ◌<◌, ◌≤◌}
use native.Mathlib.Omega.{arith}
use mathlib.Core.Path.{◌≡◌, refl, sym, ap, ◌∙◌}
use mathlib.Core.Bool.{Bool, true, false}
use Rattle.std.proofs.Common.{Option, None, Some}
use Rattle.states.specs.declared.Publication.{Publication}
use Rattle.demands.specs.Histories.{event_at}
use mathlib.Core.Logic.{⊎_elim}
use borrow.Author.Tests.{eqb-true}
use Rattle.tags.specs.declared.Tag.{Tag}
use Rattle.tags.specs.Tags.{tag_le}
use Rattle.tags.proofs.Order.{clash, reflexive}
use Rattle.plans.specs.Nets.{Net, downstream}
use Rattle.states.specs.Sessions.{Member, Session, or_never, view, put, with_grant}
use Rattle.states.specs.Rules.{mark_is, active, earliest, horizon, due, revision_of}
use Rattle.states.specs.Steps.{Out, Pass, each, visit, granting, grant_below, grants, at_rest, every, idling, idles, bounding, bounds}
use Rattle.states.proofs.Laws.{Le, picked, eq-or-less, which}
use Rattle.states.proofs.Passes.{put_same, put_other, each_keeps}
use Rattle.demands.proofs.Horizons.{Settled, Inputs, still-settled, horizon-granted}
use Rattle.demands.proofs.Changes.{SmallMember, earliest-small, Sane, Steady, put-sane, put_inputs, Light, put_light, same-own}

-- ---- what a test that failed says: the event is not reached, or the grant stands
marked : (q : Option ℕ) (r : ℕ) → mark_is q r ≡ true → q ≡ Some r
marked None r e = clash e
marked (Some k) r e = ap Some (eqb-true k r e)

undue : (m : Member) (h : Tag) (r : ℕ) (e : Tag) → due (event_at r e) m h ≡ false → active m ≡ true → Le e h → (m.revision ≡ Some r) × Le h (or_never m.granted)
unfolding due
undue m h r e d a l = go (mark_is m.revision r) (tag_le h (or_never m.granted)) refl refl
  where
    go : (b c : Bool) → mark_is m.revision r ≡ b → tag_le h (or_never m.granted) ≡ c → (m.revision ≡ Some r) × Le h (or_never m.granted)
    go true true x y = (marked m.revision r x, y)
    go true false x y = clash (sym (rw (a, l, x, y) at d))
    go false c x y = clash (sym (rw (a, l, x) at d))

grant_inputs : (m : Member) (r : ℕ) (t : Tag) → SmallMember m → Inputs m (with_grant m r t)
unfolding earliest
grant_inputs m r t h = record { earlier = reflexive (earliest m); tiny = earliest-small m h; completion = refl }

-- ---- one grant
module _ (p : Net) (o : Out) (h : Sane p o.session) (j : ℕ) (l : j < p.count) where
  abbrev s : Session
  s = o.session

  abbrev new : Member
  new = with_grant (view s j) (revision_of (view s j).publication) (horizon p (view s) j)

  abbrev ins : (i : ℕ) → i < p.count → Inputs (view s i) (view (put s j new) i)
  ins = put_inputs p s h j new (λ l'. grant_inputs (view s j) _ _ (h.small j l'))

  pub grant-sane : Sane p (visit (granting p) o j).session
  unfolding visit
  grant-sane = picked (λ (x : Out). Sane p x.session) (due (view s j).publication (view s j) (horizon p (view s) j)) _ o (put-sane p s h j new (h.small j)) h

  settles-new : Settled p (view (put s j new)) j
  settles-new r e q a reach = rw at_j (ap (λ (x : Option Publication). Some (revision_of x)) (rw at_j at q), horizon-granted p (view s) (view (put s j new)) j ins (ap (λ (m : Member). or_never m.granted) at_j))
    where
      at_j : view (put s j new) j ≡ new
      at_j = put_same s j new (omega (arith, h.long))

  settles-old : due (view s j).publication (view s j) (horizon p (view s) j) ≡ false → Settled p (view s) j
  settles-old d r e q a reach = undue (view s j) (horizon p (view s) j) r e (rw q at d) a reach

  pub grant-settles : Settled p (view (visit (granting p) o j).session) j
  unfolding visit
  grant-settles = go (due (view s j).publication (view s j) (horizon p (view s) j)) refl
    where
      go : (b : Bool) → due (view s j).publication (view s j) (horizon p (view s) j) ≡ b → Settled p (view (visit (granting p) o j).session) j
      go true e = rw e settles-new
      go false e = rw e (settles-old e)

  keeps-new : (i : ℕ) → (i ≡ j → ⊥) → Settled p (view s) i → Settled p (view (put s j new)) i
  keeps-new i n = still-settled p (view s) (view (put s j new)) i ins (rw (put_other s j new i n) (same-own (view s i)))

  pub grant-keeps : (i : ℕ) → Settled p (view s) i → Settled p (view (visit (granting p) o j).session) i
  grant-keeps i t = ⊎_elim (λ e. rw e grant-settles) (λ n. others n) (which i j)
    where
      others : (i ≡ j → ⊥) → Settled p (view (visit (granting p) o j).session) i
      others n = unfold visit in (picked (λ (x : Out). Settled p (view x.session) i) (due (view s j).publication (view s j) (horizon p (view s) j)) _ o (keeps-new i n t) t)

-- ---- all grants
-- all whom the pass has no need to visit any more are settled
pub record Granting (p : Net) (k c : ℕ) (s : Session) : Type 0 where
  pub sane : Sane p s
  pub settled : (i : ℕ) → i < p.count → (downstream p k i ≡ true → i < c) → Settled p (view s) i

module _ (p : Net) (k : ℕ) (l : k < p.count) where
  onward : (o : Out) (c : ℕ) → c < p.count → Granting p k c o.session → (b : Bool) → downstream p k c ≡ b → Granting p k (suc c) (grant_below p k o c).session
  unfolding grant_below
  onward o c h g true e =
      rw e
      record {
        sane = grant-sane p o g.sane c h;
        settled = λ i n d. ⊎_elim (λ q. rw q (grant-settles p o g.sane c h)) (λ n'. grant-keeps p o g.sane c h i (g.settled i n (λ t. below i n' (d t)))) (which i c);
      }
    where
      below : (i : ℕ) → (i ≡ c → ⊥) → i < suc c → i < c
      below i n' m = ⊎_elim (λ q. absurd (n' q)) (λ r. r) (eq-or-less i c m)
  onward o c h g false e =
      rw e
      record {
        sane = g.sane;
        settled = λ i n d. g.settled i n (λ t. ⊎_elim (λ q. clash (sym e ∙ (rw q at t))) (λ r. r) (eq-or-less i c (d t)));
      }

  visits : (o : Out) → Granting p k 0 o.session → (c : ℕ) → c ≤ p.count → Granting p k c (each (grant_below p k) c o).session
  unfolding each
  visits o g zero h = g
  visits o g (suc c) h = onward (each (grant_below p k) c o) c h (visits o g c (omega arith)) (downstream p k c) refl

  -- whoever is neither the asker nor downstream of it was settled before: then all are after the grants
  pub grants-settle : (o : Out) → Sane p o.session → ((i : ℕ) → i < p.count → (i ≡ k → ⊥) → downstream p k i ≡ false → Settled p (view o.session) i) → Steady p (grants p k o).session
  unfolding grants
  grants-settle o h t = let g = visits (visit (granting p) o k) first p.count (omega arith) in record { sane = g.sane; settled = λ i n. g.settled i n (λ e. n) }
    where
      no_way : (i : ℕ) → (downstream p k i ≡ true → i < 0) → (b : Bool) → downstream p k i ≡ b → downstream p k i ≡ false
      no_way i d true e = absurd (omega (arith, d e))
      no_way i d false e = e

      first : Granting p k 0 (visit (granting p) o k).session
      first =
          record {
            sane = grant-sane p o h k l;
            settled = λ i n d. ⊎_elim (λ q. rw q (grant-settles p o h k l)) (λ n'. grant-keeps p o h k l i (t i n n' (no_way i d (downstream p k i) refl))) (which i k);
          }

-- ---- idles and bounds
-- a pass that changes only what nobody else reads
visit-steady : (p : Net) (a : Pass) → ((v : ℕ → Member) (k : ℕ) → Light (v k) (a.becomes v k)) → (o : Out) (k : ℕ) → Steady p o.session → Steady p (visit a o k).session
unfolding visit
visit-steady p a l o k h =
    picked (λ (x : Out). Steady p x.session) (a.due (view o.session) k) _ o
    (put_light p o.session h k (a.becomes (view o.session) k) (l (view o.session) k)) h

each-steady : (p : Net) (a : Pass) → ((v : ℕ → Member) (k : ℕ) → Light (v k) (a.becomes v k)) → (o : Out) → Steady p o.session → Steady p (each (visit a) p.count o).session
each-steady p a l o h = each_keeps (λ (x : Out). Steady p x.session) (visit a) (visit-steady p a l) p.count o h

pub idles-steady : (p : Net) (o : Out) → Steady p o.session → Steady p (idles p o).session
unfolding idles
idles-steady p o h =
    picked (λ (x : Out). Steady p x.session) (every (λ k. at_rest (view o.session k)) p.count) _ o
    (each-steady p idling (λ v k. record { publication = refl; transit = refl; completed = refl; revision = refl; granted = refl; awake = λ a. clash a }) o h) h

pub bounds-steady : (p : Net) (o : Out) → Steady p o.session → Steady p (bounds p o).session
unfolding bounds
bounds-steady p o h = each-steady p (bounding p) (λ v k. record { publication = refl; transit = refl; completed = refl; revision = refl; granted = refl; awake = λ a. a }) o h

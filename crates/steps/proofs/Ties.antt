-- What the parts of a step leave is what the session's step says.
-- Assumes nothing.
use Prim.Native.Nat.{ℕ, zero, suc, ◌*◌, ◌<◌, ◌≤◌}
use native.Mathlib.Omega.{arith}
use mathlib.Core.Path.{◌≡◌, refl, sym, ap, ap₂, subst, ◌∙◌}
use mathlib.Core.Bool.{Bool, true, false}
use Rattle.std.proofs.Common.{Option, None, Some}
use mathlib.Core.List.{List, [], ◌∷◌, ◌++◌, append-nil}
use lib.Dec.{ltb, eqb}
use lib.ListN.{length, get_or, drop}
use Rattle.basis.specs.Choice.{pick}
use Rattle.basis.specs.Parts.{replaced}
use Rattle.basis.proofs.Parts.{replaced-none}
use Rattle.tags.specs.Tags.{top}
use Rattle.states.specs.declared.Cause.{Cause}
use Rattle.states.specs.declared.MemberState.{MemberState}
use Rattle.states.specs.declared.State.{State}
use Rattle.states.specs.declared.Request.{Request}
use Rattle.states.specs.declared.Request.TheVariants.{Hello, Publish, Complete, Payload, ConfirmIdle, Stop, Abort}
use Rattle.states.specs.declared.Delivery.{Delivery}
use Rattle.states.specs.declared.Delivery.TheVariants.{Started, Failed}
use Rattle.states.specs.Causes.{cause_no}
use Rattle.states.specs.Records.{joined_at}
use Rattle.states.specs.Sessions.{Session, view, with_cause}
use Rattle.states.specs.Formed.{FitsRequest, Sound}
use Rattle.states.specs.Sessions.{Member}
use Rattle.plans.specs.Nets.{Net, downstream}
use Rattle.states.proofs.Laws.{picked}
use Rattle.states.proofs.Passes.{each_keeps}
use Rattle.states.specs.Steps.{Pass, each, visit, granting, grant_below, grants, at_rest, idling, idles, bounding, bounds}
use Rattle.states.specs.Steps.{Out, every, to_all, code_of, code_given, refusal_of, effect, welcome, follow, accepted, answered, ended, abandon}
use Rattle.states.proofs.Formed.{effect-sound}
use Rattle.rows.specs.Rows.{members}
use Rattle.rows.specs.Nets.{net_in}
use Rattle.rows.specs.Loops.{over_all}
use Rattle.members.specs.Codes.{session_of, lays_of, state_of, slab_of}
use Rattle.members.specs.Rules.{tags_to, earliest_at, completed_at}
use Rattle.members.proofs.Nets.{net_count}
use Rattle.members.proofs.Codes.{slab-length, slab-kept}
use Rattle.members.proofs.Formed.{formed-sound, formed-state, formed-slab, sound-count, sound-holds}
use Rattle.members.proofs.Rules.{Earliests, Completeds, earliests-low, completeds-low}
use Rattle.members.proofs.Sessions.{sound-earliests, sound-completeds}
use Rattle.members.proofs.Typed.{Typed}
use Rattle.kinds.specs.Effects.{firstly}
use Rattle.kinds.proofs.Effects.{abort-never}
use Rattle.kinds.proofs.Tests.{numbered}
use Rattle.states.proofs.Every.{every-same}
use Rattle.passes.specs.declared.Progress.{Progress}
use Rattle.passes.specs.Pages.{Page, on, start_at, fail_at, posting, follow_in, earliests_in, completeds_in, Ready}
use Rattle.passes.specs.Ties.{Shows, all_words}
use Rattle.passes.proofs.Ties.{record_shown, posting-shows, all-shows, follow-shows}
use Rattle.steps.specs.Steps.{Runs, Stands, Leaves, unsent, welcome_in, ended_state, failed_in, opened_by, after_in, code_said, over_in, aborted_state}

-- ---- nothing sent yet, or one delivery
none-sent : (l : List ℕ) → l ≡ replaced 0 (all_words []) l
unfolding all_words
none-sent l = sym (replaced-none 0 l)

unsent-shows : (y : Session) (s : State) (ws : List ℕ) → s ≡ state_of y → Shows (record { session = y; sent = [] }) (unsent s ws) ws
unsent-shows y s ws e = record { state = e; count = refl; words = none-sent ws }

one-shows : (y : Session) (s : State) (ws : List ℕ) (d : Delivery) → s ≡ state_of y → Shows (record { session = y; sent = d ∷ [] }) (posting (unsent s ws) d) ws
one-shows y s ws d e = posting-shows (record { session = y; sent = [] }) (unsent s ws) ws d (unsent-shows y s ws e)

first-shows : (y : Session) (f : Option Delivery) (s : State) (ws : List ℕ) → s ≡ state_of y → Shows (record { session = y; sent = firstly f }) (opened_by f s ws) ws
first-shows y None s ws e = unsent-shows y s ws e
first-shows y (Some d) s ws e = one-shows y s ws d e

pub opened-state : (f : Option Delivery) (s : State) (ws : List ℕ) (g : Page) → g ≡ opened_by f s ws → g.progress.state ≡ s
opened-state None s ws g e = ap (λ (z : Page). z.progress.state) e
opened-state (Some d) s ws g e = ap (λ (z : Page). z.progress.state) e

pub opened-few : (f : Option Delivery) (s : State) (ws : List ℕ) (g : Page) → g ≡ opened_by f s ws → g.progress.sent ≤ 1
opened-few None s ws g e = omega (arith, ap (λ (z : Page). z.progress.sent) e)
opened-few (Some d) s ws g e = omega (arith, ap (λ (z : Page). z.progress.sent) e)

-- ---- Failed to all
all-failed : (y : Session) (s : State) (ws : List ℕ) (cause code n : ℕ) → s ≡ state_of y → Shows (record { session = y; sent = to_all (λ k. Failed k cause code) n }) (over_all (fail_at cause code) n (unsent s ws)) ws
all-failed y s ws cause code n e =
    all-shows (fail_at cause code) (λ k. Failed k cause code) (λ g k. refl) (record { session = y; sent = [] }) (unsent s ws) ws n (unsent-shows y s ws e)

ended-state : (x : Session) (cause code : ℕ) → ended_state (state_of x) cause code ≡ state_of (with_cause x cause code)
unfolding state_of
ended-state x cause code = refl

state-cause : (x : Session) → (state_of x).cause ≡ x.cause
unfolding state_of
state-cause x = refl

state-code : (x : Session) → (state_of x).code ≡ x.code
unfolding state_of
state-code x = refl

cause-slab : (x : Session) (cause code : ℕ) (w : List ℕ) → slab_of (with_cause x cause code) w ≡ slab_of x w
unfolding slab_of
cause-slab x cause code w = refl

-- ---- Started to all
welcome-shows : (b : List ℕ) (o : Out) (g : Page) (old : List ℕ) → length o.session.members ≡ members b → Shows o g old → Shows (welcome (net_in b) o) (welcome_in (members b) g) old
unfolding welcome welcome_in joined_at
welcome-shows b o g old e h = rw (net_count b, all) (go (every (λ k. (view o.session k).joined) (members b)))
  where
    all : every (joined_at g.progress.state) (members b) ≡ every (λ k. (view o.session k).joined) (members b)
    all = every-same (joined_at g.progress.state) (λ k. (view o.session k).joined) (members b) (λ k l. ap (λ (r : MemberState). r.joined) (record_shown o g old k (omega arith) h))

    go : (c : Bool) → Shows (record { session = o.session; sent = o.sent ++ pick c (to_all Started (members b)) [] }) (pick c (over_all start_at (members b) g) g) old
    go true = all-shows start_at Started (λ g k. refl) o g old (members b) h
    go false = rw (append-nil o.sent) h

-- ---- what follows leaves every tag
module _ (p : Net) (w : List ℕ) (x : Session) where
  abbrev Tags : Out → Type 0
  Tags o = slab_of o.session w ≡ slab_of x w

  visit-tags : (a : Pass) → ((v : ℕ → Member) (k : ℕ) → (a.becomes v k).transit ≡ (v k).transit) → (o : Out) (k : ℕ) → Tags o → Tags (visit a o k)
  unfolding visit
  visit-tags a f o k h = picked Tags (a.due (view o.session) k) _ o (slab-kept o.session w k (a.becomes (view o.session) k) (f (view o.session) k) ∙ h) h

  grants-tags : (i : ℕ) (o : Out) → Tags o → Tags (grants p i o)
  unfolding grants grant_below
  grants-tags i o h = each_keeps Tags (grant_below p i) (λ y k g. picked Tags (downstream p i k) (visit (granting p) y k) y (grant-tags y k g) g) p.count (visit (granting p) o i) (grant-tags o i h)
    where
      grant-tags : (y : Out) (k : ℕ) → Tags y → Tags (visit (granting p) y k)
      grant-tags = visit-tags (granting p) (λ v k. refl)

  idles-tags : (o : Out) → Tags o → Tags (idles p o)
  unfolding idles
  idles-tags o h = picked Tags (every (λ k. at_rest (view o.session k)) p.count) (each (visit idling) p.count o) o (each_keeps Tags (visit idling) (visit-tags idling (λ v k. refl)) p.count o h) h

  follow-tags : (i : ℕ) (o : Out) → Tags o → Tags (follow p i o)
  unfolding bounds
  follow-tags i o h = each_keeps Tags (visit (bounding p)) (visit-tags (bounding p) (λ v k. refl)) p.count (idles p (grants p i o)) (idles-tags (grants p i o) (grants-tags i o h))

accepted-slab : (p : Net) (x : Session) (i : ℕ) (q : Request) (w : List ℕ) → refusal_of p x i q ≡ 0 → slab_of (accepted p x i q).session w ≡ slab_of (effect p x i q).session w
unfolding accepted welcome
accepted-slab p x i (Hello d) w free = refl
accepted-slab p x i (Publish r e) w free = follow-tags p w (effect p x i (Publish r e)).session i (effect p x i (Publish r e)) refl
accepted-slab p x i (Complete t) w free = follow-tags p w (effect p x i (Complete t)).session i (effect p x i (Complete t)) refl
accepted-slab p x i (Payload k t h) w free = follow-tags p w (effect p x i (Payload k t h)).session i (effect p x i (Payload k t h)) refl
accepted-slab p x i (ConfirmIdle r) w free = follow-tags p w (effect p x i (ConfirmIdle r)).session i (effect p x i (ConfirmIdle r)) refl
accepted-slab p x i Stop w free = follow-tags p w (effect p x i Stop).session i (effect p x i Stop) refl
accepted-slab p x i (Abort c) w free = absurd (abort-never p x i c free)

pub taken-leaves : (p : Net) (x : Session) (i : ℕ) (q : Request) (refusal : ℕ) (r : Progress) (held words w old : List ℕ) → refusal ≡ 0 → Leaves (accepted p x i q) r held words w old → Leaves (answered p x i q refusal) r held words w old
unfolding answered
taken-leaves p x i q zero r held words w old e h = h
taken-leaves p x i q (suc k) r held words w old e h = absurd (omega arith)

-- ---- a plan that runs
module _ (b : List ℕ) (runs : Runs b) where
  -- a state that can be read
  pub ready_of : (y : Session) → Sound (net_in b) y → (w : List ℕ) → 64 * members b ≤ length w → Ready (state_of y) (slab_of y w) (members b)
  ready_of y sound w fits =
      record {
        room = rw (slab-length y w (omega (arith, sound.count, net_count b))) fits;
        holds = sound-holds b runs.laid y sound w fits;
        earliests = earliests-low (net_in b) y sound _ (sound-earliests b runs.laid y sound w);
        completeds = completeds-low (net_in b) y sound _ (sound-completeds b runs.laid y sound w);
      }

  followed-shows : (o : Out) (g : Page) (i : ℕ) (w old : List ℕ) → i < members b → Sound (net_in b) o.session → Shows o g old → Shows (follow (net_in b) i o) (follow_in b (slab_of o.session w) g i) old
  unfolding follow_in earliests_in completeds_in
  followed-shows o g i w old l sound h =
      follow-shows b runs.laid runs.ordered runs.mild _ _ old o g i l
      record {
        shows = h;
        long = sound-count b runs.laid o.session sound;
        earliests = subst (λ (s : State). Earliests (view o.session) (tags_to (earliest_at s (slab_of o.session w)) (members b))) (sym h.state) (sound-earliests b runs.laid o.session sound w);
        completeds = subst (λ (s : State). Completeds (view o.session) (tags_to (completed_at s) (members b))) (sym h.state) (sound-completeds b runs.laid o.session sound w);
      }

  after-shows : (x : Session) (i : ℕ) (q : Request) (g : Page) (w old : List ℕ) → i < members b → refusal_of (net_in b) x i q ≡ 0 → Sound (net_in b) (effect (net_in b) x i q).session → Shows (effect (net_in b) x i q) g old
      → Shows (accepted (net_in b) x i q) (after_in b (slab_of (effect (net_in b) x i q).session w) g i q) old
  unfolding accepted after_in
  after-shows x i (Hello d) g w old l free sound h = welcome-shows b (effect (net_in b) x i (Hello d)) g old (sound-count b runs.laid (effect (net_in b) x i (Hello d)).session sound) h
  after-shows x i (Publish r e) g w old l free sound h = followed-shows (effect (net_in b) x i (Publish r e)) g i w old l sound h
  after-shows x i (Complete t) g w old l free sound h = followed-shows (effect (net_in b) x i (Complete t)) g i w old l sound h
  after-shows x i (Payload k t p) g w old l free sound h = followed-shows (effect (net_in b) x i (Payload k t p)) g i w old l sound h
  after-shows x i (ConfirmIdle r) g w old l free sound h = followed-shows (effect (net_in b) x i (ConfirmIdle r)) g i w old l sound h
  after-shows x i Stop g w old l free sound h = followed-shows (effect (net_in b) x i Stop) g i w old l sound h
  after-shows x i (Abort c) g w old l free sound h = absurd (abort-never (net_in b) x i c free)

  -- ---- a state and a slab that are well formed
  module _ (s : State) (w : List ℕ) (stands : Stands b s w) (typed : Typed s) where
    state-back : state_of (session_of s w) ≡ s
    state-back = formed-state b runs.laid s w stands.fits stands.formed typed.whole

    slab-back : w ≡ slab_of (session_of s w) w
    slab-back = sym (formed-slab b runs.laid s w stands.fits stands.formed)

    -- an accepted request
    module _ (i : ℕ) (q : Request) (l : i < members b) (free : refusal_of (net_in b) (session_of s w) i q ≡ 0) (fits : FitsRequest q) (words : (k : ℕ) → get_or w k 0 ≤ top) where
      effect-is-sound : Sound (net_in b) (effect (net_in b) (session_of s w) i q).session
      effect-is-sound = effect-sound (net_in b) (session_of s w) i q fits free (formed-sound b runs.laid s w stands.fits stands.formed typed words)

      pub effect-ready : (t : State) (v : List ℕ) → t ≡ state_of (effect (net_in b) (session_of s w) i q).session → v ≡ slab_of (effect (net_in b) (session_of s w) i q).session w → Ready t v (members b)
      effect-ready t v e f =
          subst (λ (y : State). Ready y v (members b)) (sym e) (subst (λ (z : List ℕ). Ready (state_of (effect (net_in b) (session_of s w) i q).session) z (members b)) (sym f) (ready_of (effect (net_in b) (session_of s w) i q).session effect-is-sound w stands.fits))

      pub accept-leaves : (f : Option Delivery) (t : State) (v old words : List ℕ) (g : Page) (r : Progress) → (effect (net_in b) (session_of s w) i q).sent ≡ firstly f
          → t ≡ state_of (effect (net_in b) (session_of s w) i q).session → v ≡ slab_of (effect (net_in b) (session_of s w) i q).session w → g ≡ opened_by f t old → on r words ≡ after_in b v g i q
          → Leaves (accepted (net_in b) (session_of s w) i q) r v words w old
      accept-leaves f t v old words g r sent e u opened after =
          let y = (effect (net_in b) (session_of s w) i q).session in
          let shown : Shows (effect (net_in b) (session_of s w) i q) g old = subst (λ (z : Page). Shows (effect (net_in b) (session_of s w) i q) z old) (sym opened) (subst (λ (ds : List Delivery). Shows (record { session = y; sent = ds }) (opened_by f t old) old) (sym sent) (first-shows y f t old e)) in
          record {
            shows = subst (λ (z : Page). Shows (accepted (net_in b) (session_of s w) i q) z old) (sym (after ∙ ap (λ (z : List ℕ). after_in b z g i q) u)) (after-shows (session_of s w) i q g w old l free effect-is-sound shown);
            slab = u ∙ sym (accepted-slab (net_in b) (session_of s w) i q w free);
          }

    -- a refusal
    pub fail-leaves : (i : ℕ) (q : Request) (refusal n : ℕ) (cause : Cause) (code : ℕ) (old words : List ℕ) (r : Progress) → cause_no cause ≡ refusal → code ≡ code_of q → n ≡ members b → on r words ≡ failed_in s old (cause_no cause) code n
        → Leaves (answered (net_in b) (session_of s w) i q refusal) r w words w old
    unfolding answered failed_in
    fail-leaves i q zero n cause code old words r c d m e = let l : 0 < cause_no cause = numbered cause in absurd (omega arith)
    fail-leaves i q (suc k) n cause code old words r c d m e =
        let x = session_of s w in
        record {
          shows = subst (λ (z : Page). Shows (record { session = with_cause x (suc k) (code_of q); sent = to_all (λ j. Failed j (suc k) (code_of q)) (net_in b).count }) z old)
              (sym (e ∙ ap₂ (λ (a y : ℕ). over_all (fail_at a y) n (unsent (ended_state s a y) old)) c d ∙ ap (λ (a : ℕ). over_all (fail_at (suc k) (code_of q)) a (unsent (ended_state s (suc k) (code_of q)) old)) (m ∙ sym (net_count b))))
              (all-failed (with_cause x (suc k) (code_of q)) (ended_state s (suc k) (code_of q)) old (suc k) (code_of q) (net_in b).count (ap (λ (y : State). ended_state y (suc k) (code_of q)) (sym state-back) ∙ ended-state x (suc k) (code_of q)));
          slab = slab-back ∙ sym (cause-slab x (suc k) (code_of q) w);
        }

    -- an ended session
    pub over-leaves : (i : ℕ) (old words : List ℕ) (r : Progress) → on r words ≡ over_in s old i → Leaves (record { session = session_of s w; sent = Failed i (session_of s w).cause (code_given (session_of s w)) ∷ [] }) r w words w old
    unfolding session_of
    over-leaves i old words r e =
        record {
          shows = subst (λ (z : Page). Shows (record { session = session_of s w; sent = Failed i (session_of s w).cause (code_given (session_of s w)) ∷ [] }) z old) (sym e) (one-shows (session_of s w) s old (Failed i s.cause (code_said s)) (sym state-back));
          slab = slab-back;
        }

    -- the owner's abort
    pub abandon-leaves : (code n : ℕ) (t : State) (old words : List ℕ) (r : Progress) → t ≡ aborted_state s code → n ≡ members b → on r words ≡ over_all (fail_at t.cause (code_said t)) n (unsent t old)
        → Leaves (abandon (net_in b) (session_of s w) code) r w words w old
    unfolding abandon ended session_of
    abandon-leaves code n t old words r e m f = go (ltb 0 s.cause) refl
      where
        x : Session
        x = session_of s w

        done : (y : Session) → t ≡ state_of y → y.members ≡ x.members → Leaves (record { session = y; sent = to_all (λ k. Failed k y.cause (code_given y)) (net_in b).count }) r w words w old
        done y u v =
            record {
              shows = subst (λ (z : Page). Shows (record { session = y; sent = to_all (λ k. Failed k y.cause (code_given y)) (net_in b).count }) z old)
                  (sym (f ∙ ap₂ (λ (c d : ℕ). over_all (fail_at c (code_said t)) d (unsent t old)) (ap (λ (z : State). z.cause) u ∙ state-cause y) (m ∙ sym (net_count b)) ∙ ap (λ (c : ℕ). over_all (fail_at y.cause c) (net_in b).count (unsent t old)) (ap code_said u ∙ code-said y)))
                  (all-failed y t old y.cause (code_given y) (net_in b).count u);
              slab = slab-back ∙ same y v;
            }
          where
            code-said : (y : Session) → code_said (state_of y) ≡ code_given y
            code-said y = ap₂ (λ (c d : ℕ). pick (eqb c 20) d 0) (state-cause y) (state-code y)

            same : (y : Session) → y.members ≡ x.members → slab_of x w ≡ slab_of y w
            same y v = unfold slab_of in ap (λ (ms : List Member). lays_of ms ++ drop (64 * length ms) w) (sym v)

        go : (c : Bool) → ltb 0 s.cause ≡ c → Leaves (record { session = pick (ltb 0 (session_of s w).cause) (session_of s w) (with_cause (session_of s w) 20 code); sent = to_all (λ k. Failed k (pick (ltb 0 (session_of s w).cause) (session_of s w) (with_cause (session_of s w) 20 code)).cause (code_given (pick (ltb 0 (session_of s w).cause) (session_of s w) (with_cause (session_of s w) 20 code)))) (net_in b).count }) r w words w old
        go true z = rw z (done x (e ∙ rw z (sym state-back)) refl)
        go false z = rw z (done (with_cause x 20 code) (e ∙ rw z (ap (λ (y : State). ended_state y 20 code) (sym state-back) ∙ ended-state x 20 code)) refl)

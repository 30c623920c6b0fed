-- Demand 1 over the entries: the refusal is the first of 01's list that applies, and each call leaves what 01 says.
-- Assumes nothing.
use Prim.Native.Nat.{ℕ, zero, suc, ◌+◌, ◌*◌, ◌<◌, ◌≤◌}
use native.Mathlib.Omega.{arith}
use mathlib.Core.Path.{◌≡◌, refl, sym, ap, ◌∙◌}
use mathlib.Core.Bool.{Bool, true, false}
use mathlib.Core.List.{List, [], ◌∷◌, ◌++◌}
use lib.Dec.{ltb, eqb}
use Rattle.std.proofs.Common.{None, Some}
use lib.ListN.{length, get_or, drop}
use borrow.Author.Tests.{lt-ltb, le-ltb}
use Rattle.basis.specs.Choice.{pick, not}
use Rattle.basis.specs.Parts.{replaced}
use Rattle.states.specs.declared.State.{State}
use Rattle.states.specs.declared.Request.{Request}
use Rattle.states.specs.declared.Delivery.{Delivery}
use Rattle.states.specs.declared.Delivery.TheVariants.{Failed}
use Rattle.states.specs.Records.{fresh_state}
use Rattle.states.specs.Sessions.{Session, fresh, with_cause}
use Rattle.states.specs.Steps.{Out, start, to_all, when, or_else, code_of, code_given, refusal_of, answered, step, ended, abandon}
use Rattle.states.proofs.Counts.{step_count}
use Rattle.plans.specs.Nets.{Net}
use Rattle.rows.specs.Rows.{members}
use Rattle.rows.specs.Plans.{plan_in}
use Rattle.rows.specs.Nets.{net_in}
use Rattle.recognised.specs.Recognised.{is_image, longer, refusal_in}
use Rattle.recognised.proofs.Answers.{not-refused}
use Rattle.requests.specs.Asking.{Form, far_of, refused, judged_by, asked_by}
use Rattle.members.specs.Codes.{session_of, state_of, slab_of}
use Rattle.members.specs.Formed.{formed}
use Rattle.members.proofs.Codes.{session-length}
use Rattle.members.proofs.Formed.{formed-state, formed-slab, formed-count}
use Rattle.members.proofs.Nets.{net_count}
use Rattle.passes.specs.Ties.{all_words}
use Rattle.passes.proofs.Ties.{all-long}
use Rattle.steps.specs.Steps.{ended_state, code_said}
use Rattle.rti.specs.Entries.{open_refusal, abort_refusal, request_refusal, Outcome, shown, judged, opened, handled, aborted}
use Rattle.rti.proofs.Opening.{fresh-state, fresh-slab}
use Rattle.rti.proofs.Refusals.{runs_of, open_free, abort-free, request-free}
use Rattle.demands.specs.Refusals.{First}
use Rattle.demands.specs.Entries.{malformed, beyond, open_grounds, abort_grounds, request_grounds, Untouched, Sends, Opens, Aborts, Handles}
use Rattle.demands.proofs.Refusals.{once, decide, found, first_applies}
use Rattle.demands.proofs.Answers.{answers}
use Rattle.demands.proofs.Malformed.{asked-number}

-- ---- refusals said by nesting, as one list
open_decides : (b slab : List ℕ) → open_refusal b (length slab) ≡ decide (open_grounds b slab)
unfolding open_refusal refusal_in open_grounds decide
open_decides b slab = go (is_image b) (longer (plan_in b)) (ltb (length slab) (64 * members b))
  where
    go : (a c d : Bool) → or_else (pick a (pick c 12 0) 11) (when d 13) ≡ pick (not a) 11 (pick c 12 (pick d 13 0))
    go false c d = refl
    go true true d = refl
    go true false d = refl

abort-decides : (b : List ℕ) (s : State) (slab words : List ℕ) → abort_refusal b s slab (length words) ≡ decide (abort_grounds b s slab words)
unfolding abort_refusal open_refusal refusal_in abort_grounds open_grounds decide
abort-decides b s slab words = go (is_image b) (longer (plan_in b)) (ltb (length slab) (64 * members b)) (not (formed (net_in b) s slab)) (ltb (length words) (7 * (2 * members b + 1)))
  where
    go : (a c d e f : Bool) → or_else (or_else (pick a (pick c 12 0) 11) (when d 13)) (or_else (when e 14) (when f 15)) ≡ pick (not a) 11 (pick c 12 (pick d 13 (pick e 14 (pick f 15 0))))
    go false c d e f = refl
    go true true d e f = refl
    go true false true e f = refl
    go true false false true f = refl
    go true false false false f = refl

request-decides : (b : List ℕ) (s : State) (slab request words : List ℕ) → request_refusal b s slab (length words) request ≡ decide (request_grounds b s slab request words)
unfolding request_refusal abort_refusal open_refusal refusal_in request_grounds abort_grounds open_grounds decide
request-decides b s slab request words =
    ap (λ (n : ℕ). or_else (abort_refusal b s slab (length words)) n) (asked-number request)
    ∙ go (is_image b) (longer (plan_in b)) (ltb (length slab) (64 * members b)) (not (formed (net_in b) s slab)) (ltb (length words) (7 * (2 * members b + 1))) (malformed request) (beyond request)
  where
    go : (a c d e f g h : Bool) → or_else (or_else (or_else (pick a (pick c 12 0) 11) (when d 13)) (or_else (when e 14) (when f 15))) (pick g 16 (pick h 17 0)) ≡
        pick (not a) 11 (pick c 12 (pick d 13 (pick e 14 (pick f 15 (pick g 16 (pick h 17 0))))))
    go false c d e f g h = refl
    go true true d e f g h = refl
    go true false true e f g h = refl
    go true false false true f g h = refl
    go true false false false true g h = refl
    go true false false false false g h = refl

-- The refusal of each call is the first of 01's list that applies.
pub open_first : (b slab : List ℕ) → First (open_grounds b slab) (open_refusal b (length slab))
open_first b slab = rw (open_decides b slab) (found (open_grounds b slab))

pub abort-first : (b : List ℕ) (s : State) (slab words : List ℕ) → First (abort_grounds b s slab words) (abort_refusal b s slab (length words))
abort-first b s slab words = rw (abort-decides b s slab words) (found (abort_grounds b s slab words))

pub request-first : (b : List ℕ) (s : State) (slab request words : List ℕ) → First (request_grounds b s slab request words) (request_refusal b s slab (length words) request)
request-first b s slab request words = rw (request-decides b s slab request words) (found (request_grounds b s slab request words))

-- ---- what a call leaves
refused-leaves : (refusal n : ℕ) (o : Out) (s : State) (slab words : List ℕ) → 0 < n → refusal ≡ n → Untouched n s slab words (judged refusal o s slab words)
unfolding judged
refused-leaves zero n o s slab words l e = absurd (omega arith)
refused-leaves (suc r) n o s slab words l e = record { number = e; count = refl; state = refl; slab = refl; words = refl }

at_front : (ds : List Delivery) (words : List ℕ) → replaced 0 (all_words ds) words ≡ all_words ds ++ drop (7 * length ds) words
unfolding replaced
at_front ds words = let e : 0 + length (all_words ds) ≡ 7 * length ds = omega (arith, all-long ds) in ap (λ (k : ℕ). all_words ds ++ drop k words) e

taken-leaves : (refusal : ℕ) (o : Out) (s : State) (slab words : List ℕ) → refusal ≡ 0 → Sends o.sent (state_of o.session) (slab_of o.session slab) words (judged refusal o s slab words)
unfolding judged shown
taken-leaves zero o s slab words e = record { number = refl; count = refl; state = refl; slab = refl; words = at_front o.sent words }
taken-leaves (suc r) o s slab words e = absurd (omega arith)

-- the same, in other words for the state and the slab
in_words : (o : Out) (ds : List Delivery) (t : State) (slab held words : List ℕ) (x : Outcome) → o.sent ≡ ds → state_of o.session ≡ t → slab_of o.session slab ≡ held
    → Sends o.sent (state_of o.session) (slab_of o.session slab) words x → Sends ds t held words x
in_words o ds t slab held words x d e f h = rw (d, e, f) at h

-- ---- opening
pub opens : (b : List ℕ) (identity : ℕ) (slab : List ℕ) → Opens b identity slab (opened b identity slab)
unfolding opened
opens b identity slab =
    record {
      refused = λ n l f. refused-leaves _ n _ _ _ _ l (once _ n (open_first b slab) f);
      taken = λ f.
          let z = once _ 0 (open_first b slab) f in
          let I = not-refused b (open_free b (length slab) z).0 in
          in_words (start (fresh (members b) identity)) [] _ slab _ [] _ refl (fresh-state (members b) identity I.few) (fresh-slab (members b) identity slab)
          (taken-leaves _ (start (fresh (members b) identity)) (fresh_state 0 0) slab [] z);
    }

-- ---- a session that ends
abandon-going : (p : Net) (x : Session) (code : ℕ) → x.cause ≡ 0 → ((abandon p x code).session ≡ with_cause x 20 code) × ((abandon p x code).sent ≡ to_all (λ k. Failed k 20 code) p.count)
unfolding abandon ended
abandon-going p x code e = rw (le-ltb 0 x.cause (omega arith)) (refl, refl)

abandon-over : (p : Net) (x : Session) (code : ℕ) → 0 < x.cause → ((abandon p x code).session ≡ x) × ((abandon p x code).sent ≡ to_all (λ k. Failed k x.cause (code_given x)) p.count)
unfolding abandon ended
abandon-over p x code l = rw (lt-ltb 0 x.cause l) (refl, refl)

ended-state : (x : Session) (s : State) (cause code : ℕ) → state_of x ≡ s → state_of (with_cause x cause code) ≡ ended_state s cause code
unfolding state_of
ended-state x s cause code e = ap (λ (t : State). ended_state t cause code) e

ended-slab : (x : Session) (slab : List ℕ) (cause code : ℕ) → slab_of x slab ≡ slab → slab_of (with_cause x cause code) slab ≡ slab
unfolding slab_of
ended-slab x slab cause code e = e

step-refused : (p : Net) (x : Session) (i : ℕ) (q : Request) (n : ℕ) → x.cause ≡ 0 → 0 < n → refusal_of p x i q ≡ n
    → ((step p x i q).session ≡ with_cause x n (code_of q)) × ((step p x i q).sent ≡ to_all (λ k. Failed k n (code_of q)) p.count)
unfolding step answered
step-refused p x i q zero c l e = absurd (omega arith)
step-refused p x i q (suc n) c l e = rw (le-ltb 0 x.cause (omega arith), e) (refl, refl)

step-over : (p : Net) (x : Session) (i : ℕ) (q : Request) → 0 < x.cause → ((step p x i q).session ≡ x) × ((step p x i q).sent ≡ Failed i x.cause (code_given x) ∷ [])
unfolding step
step-over p x i q l = rw (lt-ltb 0 x.cause l) (refl, refl)

-- ---- who asks
member-word : (l : List ℕ) → (asked_by l).number ≡ 0 → (asked_by l).member ≡ get_or l 0 0
unfolding asked_by
member-word l e = by_length (eqb (length l) 7) _ e
  where
    near : (i : ℕ) (q : Request) (far : Bool) → (pick far (refused 17) (record { number = 0; member = i; request = q })).number ≡ 0 → (pick far (refused 17) (record { number = 0; member = i; request = q })).member ≡ i
    near i q true z = absurd (omega arith)
    near i q false z = refl

    formed-by : (i : ℕ) (f : Form) → (judged_by i f).number ≡ 0 → (judged_by i f).member ≡ i
    formed-by i None z = unfold judged_by in absurd (omega arith)
    formed-by i (Some q) z = unfold judged_by in near i q (far_of q) z

    by_length : (b : Bool) (f : Form) → (pick b (judged_by (get_or l 0 0) f) (refused 16)).number ≡ 0 → (pick b (judged_by (get_or l 0 0) f) (refused 16)).member ≡ get_or l 0 0
    by_length true f z = formed-by (get_or l 0 0) f z
    by_length false f z = absurd (omega arith)

judged-few : (refusal : ℕ) (o : Out) (s : State) (slab words : List ℕ) (n : ℕ) → (refusal ≡ 0 → length o.sent ≤ n) → (judged refusal o s slab words).answer.count ≤ n
unfolding judged shown
judged-few zero o s slab words n h = h refl
judged-few (suc r) o s slab words n h = omega arith

module _ (b : List ℕ) (bytes : (i : ℕ) → get_or b i 0 < 256) (s : State) (whole : length s.members ≡ 32) (slab words : List ℕ) where
  -- a state and a slab that are well formed are the words of the session that they stand for
  same-state : abort_refusal b s slab (length words) ≡ 0 → state_of (session_of s slab) ≡ s
  same-state e = let z = abort-free b s slab (length words) e in formed-state b (runs_of b bytes z.0).laid s slab z.1.fits z.1.formed whole

  same-slab : abort_refusal b s slab (length words) ≡ 0 → slab_of (session_of s slab) slab ≡ slab
  same-slab e = let z = abort-free b s slab (length words) e in formed-slab b (runs_of b bytes z.0).laid s slab z.1.fits z.1.formed

  same_count : abort_refusal b s slab (length words) ≡ 0 → length (session_of s slab).members ≡ (net_in b).count
  same_count e = let z = abort-free b s slab (length words) e in session-length s slab ∙ (formed-count b (runs_of b bytes z.0).laid s slab z.1.fits z.1.formed ∙ sym (net_count b))

  pub aborts : (code : ℕ) → Aborts b s slab code words (aborted b s slab code words)
  unfolding aborted session_of
  aborts code =
      let x = session_of s slab in
      record {
        refused = λ n l f. refused-leaves _ n _ _ _ _ l (once _ n (abort-first b s slab words) f);
        going = λ f e.
            let z = once _ 0 (abort-first b s slab words) f in
            let a = abandon-going (net_in b) x code e in
            in_words (abandon (net_in b) x code) _ _ slab _ words _ (a.1 ∙ ap (to_all (λ k. Failed k 20 code)) (net_count b))
            (ap state_of a.0 ∙ ended-state x s 20 code (same-state z)) (ap (λ (y : Session). slab_of y slab) a.0 ∙ ended-slab x slab 20 code (same-slab z))
            (taken-leaves _ (abandon (net_in b) x code) s slab words z);
        over = λ f l.
            let z = once _ 0 (abort-first b s slab words) f in
            let a = abandon-over (net_in b) x code l in
            in_words (abandon (net_in b) x code) _ _ slab _ words _ (a.1 ∙ ap (to_all (λ k. Failed k s.cause (code_said s))) (net_count b))
            (ap state_of a.0 ∙ same-state z) (ap (λ (y : Session). slab_of y slab) a.0 ∙ same-slab z)
            (taken-leaves _ (abandon (net_in b) x code) s slab words z);
      }

  module _ (request : List ℕ) where
    abbrev x : Session
    x = session_of s slab

    abbrev q : Request
    q = (asked_by request).request

    o : Out
    o = step (net_in b) x (get_or request 0 0) q

    free : request_refusal b s slab (length words) request ≡ 0 → (abort_refusal b s slab (length words) ≡ 0) × ((asked_by request).number ≡ 0)
    free z = request-free b s slab (length words) request z

    -- what a request that is taken leaves
    leaves : request_refusal b s slab (length words) request ≡ 0 → Sends o.sent (state_of o.session) (slab_of o.session slab) words (handled b s slab request words)
    unfolding handled o
    leaves z = rw (member-word request (free z).1) (taken-leaves _ (step (net_in b) x (get_or request 0 0) q) s slab words z)

    first : (n : ℕ) → First (request_grounds b s slab request words) n → request_refusal b s slab (length words) request ≡ n
    first n f = once _ n (request-first b s slab request words) f

    pub handles : Handles b s slab request words (handled b s slab request words)
    unfolding o session_of
    handles =
        record {
          refused = λ n l f. unfold handled in refused-leaves _ n _ _ _ _ l (first n f);
          taken = λ f. let z = first 0 f in (o, answers (net_in b) x (get_or request 0 0) q (same_count (free z).0), leaves z);
          few = unfold handled in judged-few _ _ _ _ _ _ (λ z. omega (arith, net_count b, step_count (net_in b) x (same_count (free z).0) (asked_by request).member q));
          over = λ f l.
              let z = first 0 f in
              let a = step-over (net_in b) x (get_or request 0 0) q l in
              in_words o _ _ slab _ words _ a.1 (ap state_of a.0 ∙ same-state (free z).0) (ap (λ (y : Session). slab_of y slab) a.0 ∙ same-slab (free z).0) (leaves z);
          ends = λ f c n l g.
              let z = first 0 f in
              let a = step-refused (net_in b) x (get_or request 0 0) q n c l (once _ n (first_applies (net_in b) x (get_or request 0 0) q) g) in
              in_words o _ _ slab _ words _ (a.1 ∙ ap (to_all (λ k. Failed k n (code_of q))) (net_count b))
              (ap state_of a.0 ∙ ended-state x s n (code_of q) (same-state (free z).0)) (ap (λ (y : Session). slab_of y slab) a.0 ∙ ended-slab x slab n (code_of q) (same-slab (free z).0)) (leaves z);
        }

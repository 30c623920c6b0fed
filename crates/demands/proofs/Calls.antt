-- What a host holds after any history of calls: well formed, the words of a session that 01's steps lead to, with demand 3.
-- Assumes nothing.
use Prim.Native.Nat.{ℕ, zero, suc, ◌+◌, ◌*◌, ◌-◌, ◌<◌, ◌≤◌}
use native.Mathlib.Omega.{arith}
use mathlib.Core.Path.{◌≡◌, refl, sym, ap, ◌∙◌}
use mathlib.Core.Bool.{Bool, true, false}
use mathlib.Core.List.{List, []}
use lib.Dec.{ltb, eqb}
use lib.ListN.{length, get_or}
use borrow.Author.Tests.{eqb-true, le-ltb}
use Rattle.basis.specs.Choice.{pick, both, either}
use Rattle.basis.proofs.Numbers.{Bytes}
use Rattle.tags.specs.Tags.{top}
use Rattle.plans.specs.Nets.{Net}
use Rattle.transit.proofs.Lists.{both_true}
use Rattle.states.specs.declared.State.{State}
use Rattle.states.specs.Records.{fresh_state}
use Rattle.states.specs.Sessions.{Session, Member, fresh, view}
use Rattle.states.specs.Steps.{Out, start, every, when, or_else, step, abandon, finished}
use Rattle.rows.specs.Rows.{members}
use Rattle.rows.specs.Plans.{plan_in}
use Rattle.rows.specs.Nets.{net_in}
use Rattle.recognised.specs.Facts.{Image}
use Rattle.recognised.specs.Recognised.{refusal_in}
use Rattle.recognised.proofs.Answers.{not-refused}
use Rattle.requests.specs.Asking.{asked_by}
use Rattle.requests.proofs.Heard.{asked-fits}
use Rattle.members.specs.Codes.{session_of, slab_of}
use Rattle.members.specs.Formed.{formed, formed_at, blank_at, every as everyOf}
use Rattle.members.proofs.Codes.{view-at, slab-length}
use Rattle.members.proofs.Nets.{net_count}
use Rattle.passes.specs.Pages.{stopped_at}
use Rattle.states.proofs.Every.{every-same}
use Rattle.rti.specs.Entries.{open_refusal, abort_refusal, request_refusal, shown, judged, opened as opened_by, handled, aborted as abortedBy, finished_state}
use Rattle.rti.proofs.Refusals.{open_free, request-free}
use Rattle.demands.specs.Histories.{Reached, opened as Reached·opened, asked as Reached·asked, aborted as Reached·aborted}
use Rattle.demands.specs.Words.{Bounded, Held, opened as Held·opened, asked as Held·asked, aborted as Held·aborted}
use Rattle.demands.specs.Entries.{malformed, beyond}
use Rattle.demands.specs.Calls.{History, opened, asked, aborted, Kept}
use Rattle.demands.proofs.Histories.{formed as sound}
use Rattle.demands.proofs.Nets.{demand_3_alike}
use Rattle.demands.proofs.Malformed.{asked-number}
use Rattle.demands.proofs.Words.{stands}
use Rattle.demands.proofs.Recognised.{image-taken, image-alike}

-- ---- finished
says-count : (p : Net) (s : State) (slab : List ℕ) → formed p s slab ≡ true → s.count ≡ p.count
unfolding formed
says-count p s slab h = eqb-true s.count p.count (both_true (eqb s.count p.count) (both (everyOf (formed_at p s slab) p.count) (everyOf (blank_at s p.count) (32 - p.count))) h).0

-- Finished, of a state that is well formed, is what 01 says of the session that it stands for.
pub finished-is : (b : List ℕ) → refusal_in b ≡ 0 → (s : State) (slab : List ℕ) → formed (net_in b) s slab ≡ true → finished_state s ≡ finished (net_in b) (session_of s slab)
unfolding finished_state finished session_of
finished-is b e s slab h =
    let same = says-count (net_in b) s slab h ∙ net_count b in
    let few = (not-refused b e).few in
    go (ltb 0 s.cause) (ltb 32 s.count) (le-ltb 32 s.count (omega arith)) _ _
    (every-same (stopped_at s) (λ k. (view (session_of s slab) k).stopped) s.count (λ k l. sym (ap (λ (m : Member). m.stopped) (view-at s slab k l)))
    ∙ ap (every (λ k. (view (session_of s slab) k).stopped)) (says-count (net_in b) s slab h))
  where
    go : (a f : Bool) → f ≡ false → (x y : Bool) → x ≡ y → pick a true (pick f false x) ≡ either a y
    go true f z x y w = refl
    go false f z x y w = rw z w

-- ---- refusals, when nothing but the buffer and the request can be wrong
late : (r : ℕ) (short far mal : Bool) → r ≡ or_else (when short 15) (pick mal 16 (pick far 17 0)) → 0 < r → 15 ≤ r
late r true far mal e l = omega arith
late r false far true e l = omega arith
late r false true false e l = omega arith
late r false false false e l = absurd (omega arith)

pub judged-number : (r : ℕ) (o : Out) (s : State) (slab words : List ℕ) → (judged r o s slab words).answer.refusal ≡ r
unfolding judged shown
judged-number zero o s slab words = refl
judged-number (suc r) o s slab words = refl

module _ (b : List ℕ) (s : State) (slab : List ℕ) (free : open_refusal b (length slab) ≡ 0) (h : formed (net_in b) s slab ≡ true) where
  abort-late : (room : ℕ) → abort_refusal b s slab room ≡ when (ltb room (7 * (2 * members b + 1))) 15
  unfolding abort_refusal
  abort-late room = rw (free, h) refl

  pub asked-late : (request words : List ℕ) → 0 < (handled b s slab request words).answer.refusal → 15 ≤ (handled b s slab request words).answer.refusal
  unfolding handled request_refusal
  asked-late request words =
      late _ (ltb (length words) (7 * (2 * members b + 1))) (beyond request) (malformed request)
      (judged-number _ _ _ _ _ ∙ (ap (λ (n : ℕ). or_else n (asked_by request).number) (abort-late (length words)) ∙ ap (or_else (when (ltb (length words) (7 * (2 * members b + 1))) 15)) (asked-number request)))

  pub aborted-late : (code : ℕ) (words : List ℕ) → 0 < (abortedBy b s slab code words).answer.refusal → 15 ≤ (abortedBy b s slab code words).answer.refusal
  unfolding abortedBy
  aborted-late code words = late _ (ltb (length words) (7 * (2 * members b + 1))) false false (judged-number _ _ _ _ _ ∙ (abort-late (length words) ∙ or-none (ltb (length words) (7 * (2 * members b + 1)))))
    where
      or-none : (c : Bool) → when c 15 ≡ or_else (when c 15) 0
      or-none true = refl
      or-none false = refl

-- ---- histories by steps
pub bounded_in : (b : List ℕ) → Image b → Bounded (net_in b)
unfolding net_in
bounded_in b I = record { few = I.few; small = I.small }

-- what a host holds, by steps, on a plan and a slab that opening takes
record Run (b : List ℕ) (s : State) (slab : List ℕ) : Type 0 where
  held : Held (net_in b) s slab
  free : open_refusal b (length slab) ≡ 0

module _ (b : List ℕ) where
  -- a session's slab is as long as it was
  same_length : (x : Session) (slab : List ℕ) → open_refusal b (length slab) ≡ 0 → Reached (net_in b) x → open_refusal b (length (slab_of x slab)) ≡ 0
  same_length x slab e r =
      let z = open_free b (length slab) e in
      ap (open_refusal b) (slab-length x slab (omega (arith, net_count b, (sound (net_in b) x r).count))) ∙ e

  run-opened : (identity : ℕ) (slab : List ℕ) (r : ℕ) → open_refusal b (length slab) ≡ r → r ≡ 0
      → Run b (judged r (start (fresh (members b) identity)) (fresh_state 0 0) slab []).answer.state (judged r (start (fresh (members b) identity)) (fresh_state 0 0) slab []).slab
  unfolding judged shown net_in
  run-opened identity slab zero e z =
      record { held = Held·opened identity slab (open_free b (length slab) e).1; free = same_length (fresh (members b) identity) slab e (Reached·opened identity) }
  run-opened identity slab (suc r) e z = absurd (omega arith)

  module _ (s : State) (slab : List ℕ) (h : Run b s slab) where
    reached : Reached (net_in b) (session_of s slab)
    reached = (stands (net_in b) (bounded_in b (not-refused b (open_free b (length slab) h.free).0)) s slab h.held).reached

    run-asked : (request words : List ℕ) → ((k : ℕ) → get_or request k 0 ≤ top) → (r : ℕ) → request_refusal b s slab (length words) request ≡ r
        → Run b (judged r (step (net_in b) (session_of s slab) (asked_by request).member (asked_by request).request) s slab words).answer.state (judged r (step (net_in b) (session_of s slab) (asked_by request).member (asked_by request).request) s slab words).slab
    unfolding judged shown
    run-asked request words w zero e =
        let z = (request-free b s slab (length words) request e).1 in
        record { held = Held·asked h.held request w z; free = same_length _ slab h.free (Reached·asked reached (asked_by request).member (asked_by request).request (asked-fits request w z)) }
    run-asked request words w (suc r) e = h

    run-aborted : (code : ℕ) (words : List ℕ) (r : ℕ) → Run b (judged r (abandon (net_in b) (session_of s slab) code) s slab words).answer.state (judged r (abandon (net_in b) (session_of s slab) code) s slab words).slab
    unfolding judged shown
    run-aborted code words zero = record { held = Held·aborted h.held code; free = same_length _ slab h.free (Reached·aborted reached code) }
    run-aborted code words (suc r) = h

  run : (s : State) (slab : List ℕ) → History b s slab → Run b s slab
  unfolding opened_by handled abortedBy
  run _ _ (opened identity slab e) = run-opened identity slab (open_refusal b (length slab)) refl (sym (judged-number (open_refusal b (length slab)) _ _ _ _) ∙ e)
  run _ _ (asked {s = s} {slab = slab} h request words w) = run-asked s slab (run s slab h) request words w (request_refusal b s slab (length words) request) refl
  run _ _ (aborted {s = s} {slab = slab} h code words) = run-aborted s slab (run s slab h) code words (abort_refusal b s slab (length words))

  -- Of every history of calls, on bytes
  pub kept : Bytes b → (s : State) (slab : List ℕ) → History b s slab → Kept b s slab
  kept B s slab h =
      let r = run s slab h in
      let I = not-refused b (open_free b (length slab) r.free).0 in
      let t = stands (net_in b) (bounded_in b I) s slab r.held in
      let d = demand_3_alike (plan_in b) (image-taken b B I) (net_in b) (image-alike b B I) (session_of s slab) t.reached in
      record {
        stands = t;
        asked = asked-late b s slab r.free t.formed;
        aborted = aborted-late b s slab r.free t.formed;
        grants = λ j l. d.0 j (omega (arith, net_count b));
        moves = d.1;
        finished = finished-is b (open_free b (length slab) r.free).0 s slab t.formed;
      }

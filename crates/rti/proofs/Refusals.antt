-- The first refusal that applies, and what it rules out.
-- Assumes nothing.
use Prim.Native.Nat.{ℕ, zero, suc, ◌+◌, ◌*◌, ◌<◌, ◌≤◌}
use native.Mathlib.Omega.{arith}
use mathlib.Core.Path.{◌≡◌, refl, sym, ap, ap₂, ◌∙◌}
use mathlib.Core.Bool.{Bool, true, false}
use Rattle.std.proofs.Common.{Ok, Err, subst}
use mathlib.Core.List.{List}
use lib.Dec.{ltb}
use lib.ListN.{length, get_or}
use borrow.Author.Tests.{ltb-false}
use Rattle.basis.specs.Choice.{not}
use Rattle.states.specs.declared.State.{State}
use Rattle.states.specs.Steps.{Out, when, or_else, step}
use Rattle.states.proofs.Memberwise.{else_zero, when-zero}
use Rattle.states.proofs.Laws.{not_false}
use Rattle.tags.proofs.Order.{clash}
use Rattle.rows.specs.Rows.{members}
use Rattle.rows.specs.Nets.{net_in}
use Rattle.recognised.specs.declared.Fault.{Fault as Seen}
use Rattle.recognised.specs.Faults.{fault_no as seen_no}
use Rattle.recognised.specs.Recognised.{refusal_in}
use Rattle.recognised.proofs.Sits.{bytes_of}
use Rattle.recognised.proofs.Usable.{usable}
use Rattle.requests.specs.declared.Asked.{Asked}
use Rattle.requests.specs.declared.Fault.{Fault}
use Rattle.requests.specs.Asking.{Heard, fault_no, heard_as, asked_by}
use Rattle.members.specs.Codes.{session_of, state_of}
use Rattle.members.specs.Formed.{formed}
use Rattle.passes.specs.declared.Progress.{Progress}
use Rattle.steps.specs.Steps.{Runs, Stands, Leaves}
use Rattle.rti.specs.declared.Answer.{Answer}
use Rattle.rti.specs.declared.Refusal.{Refusal}
use Rattle.rti.specs.declared.Refusal.TheVariants.{NoImage, TooLong, Slab, State as IllFormed, Room, Malformed, Far}
use Rattle.rti.specs.Refusals.{refusal_no, unrecognised, misheard}
use Rattle.rti.specs.Entries.{open_refusal, abort_refusal, request_refusal, answered, leaving, shown, judged, handled}

-- ---- the first that applies
pub else_first : (a r : ℕ) → (a ≡ 0 → ⊥) → a ≡ or_else a r
else_first zero r l = absurd (l refl)
else_first (suc a) r l = refl

pub else_next : (a r k : ℕ) → a ≡ 0 → k ≡ r → k ≡ or_else a r
else_next zero r k e h = h
else_next (suc a) r k e h = absurd (omega arith)

pub when-holds : (c : Bool) (n : ℕ) → c ≡ true → n ≡ when c n
when-holds true n e = refl
when-holds false n e = clash e

pub when-not : (c : Bool) (n : ℕ) → c ≡ false → 0 ≡ when c n
when-not true n e = clash (sym e)
when-not false n e = refl

pub else_holds : (c : Bool) (n r : ℕ) → c ≡ true → suc n ≡ or_else (when c (suc n)) r
else_holds true n r e = refl
else_holds false n r e = clash e

refused-set : (r : Refusal) → refusal_no r ≡ 0 → ⊥
refused-set NoImage e = absurd (omega arith)
refused-set TooLong e = absurd (omega arith)
refused-set Slab e = absurd (omega arith)
refused-set IllFormed e = absurd (omega arith)
refused-set Room e = absurd (omega arith)
refused-set Malformed e = absurd (omega arith)
refused-set Far e = absurd (omega arith)

pub first-said : (a r : ℕ) (e : Refusal) → refusal_no e ≡ a → refusal_no e ≡ or_else a r
first-said zero r e h = absurd (refused-set e h)
first-said (suc a) r e h = h

pub unrecognised-no : (f : Seen) → refusal_no (unrecognised f) ≡ seen_no f
unrecognised-no Seen.NoImage = refl
unrecognised-no Seen.TooLong = refl

-- ---- what no refusal says
pub runs_of : (b : List ℕ) → ((i : ℕ) → get_or b i 0 < 256) → refusal_in b ≡ 0 → Runs b
runs_of b bytes e =
    let u = usable b (bytes_of b bytes) e in
    record { laid = u.laid; ordered = u.ordered; mild = record { direct = u.direct; transitive = u.transitive } }

pub open_free : (b : List ℕ) (words : ℕ) → open_refusal b words ≡ 0 → (refusal_in b ≡ 0) × (64 * members b ≤ words)
unfolding open_refusal
open_free b words e =
    let z = else_zero (refusal_in b) (when (ltb words (64 * members b)) 13) e in
    (z.0, ltb-false words (64 * members b) (when-zero (ltb words (64 * members b)) 12 z.1))

pub abort-free : (b : List ℕ) (s : State) (slab : List ℕ) (room : ℕ) → abort_refusal b s slab room ≡ 0 → (refusal_in b ≡ 0) × Stands b s slab × (7 * (2 * members b + 1) ≤ room)
unfolding abort_refusal
abort-free b s slab room e =
    let ill = when (not (formed (net_in b) s slab)) 14 in
    let short = when (ltb room (7 * (2 * members b + 1))) 15 in
    let z = else_zero (open_refusal b (length slab)) (or_else ill short) e in
    let y = else_zero ill short z.1 in
    let o = open_free b (length slab) z.0 in
    (o.0, record { fits = o.1; formed = not_false (formed (net_in b) s slab) (when-zero (not (formed (net_in b) s slab)) 13 y.0) }, ltb-false room (7 * (2 * members b + 1)) (when-zero (ltb room (7 * (2 * members b + 1))) 14 y.1))

pub request-free : (b : List ℕ) (s : State) (slab : List ℕ) (room : ℕ) (request : List ℕ) → request_refusal b s slab room request ≡ 0 → (abort_refusal b s slab room ≡ 0) × ((asked_by request).number ≡ 0)
unfolding request_refusal
request-free b s slab room request e = else_zero (abort_refusal b s slab room) (asked_by request).number e

-- ---- what an entry leaves
pub judged-refused : (refusal : ℕ) (r : Refusal) (o : Out) (s : State) (slab words : List ℕ) → refusal_no r ≡ refusal → leaving (answered s (Err r)) slab words ≡ judged refusal o s slab words
unfolding judged
judged-refused zero r o s slab words e = absurd (refused-set r e)
judged-refused (suc k) r o s slab words e = ap (λ (n : ℕ). leaving (record { refusal = n; count = 0; state = s }) slab words) e

pub judged-done : (refusal : ℕ) (o : Out) (p : Progress) (s : State) (held words w old : List ℕ) (a : Answer) → refusal ≡ 0 → Leaves o p held words w old → a ≡ record { count = p.sent; state = p.state } → leaving (answered s (Ok a)) held words ≡ judged refusal o s w old
unfolding judged shown
judged-done (suc k) o p s held words w old a e h f = absurd (omega arith)
judged-done zero o p s held words w old a e h f =
    ap (λ (x : Answer). leaving (answered s (Ok x)) held words) (f ∙ ap₂ (λ (n : ℕ) (t : State). record { count = n; state = t }) h.shows.count h.shows.state)
    ∙ ap₂ (λ (l m : List ℕ). leaving (record { refusal = 0; count = length o.sent; state = state_of o.session }) l m) h.slab h.shows.words

-- ---- a request that is read
misheard_no : (f : Fault) → refusal_no (misheard f) ≡ fault_no f
misheard_no Fault.Malformed = refl
misheard_no Fault.Far = refl

module _ (b : List ℕ) (s : State) (slab words request : List ℕ) (free : abort_refusal b s slab (length words) ≡ 0) where
  pub misheard-leaves : (f : Fault) → heard_as (Err f) ≡ asked_by request → leaving (answered s (Err (misheard f))) slab words ≡ handled b s slab request words
  unfolding handled request_refusal
  misheard-leaves f e = judged-refused _ _ _ _ _ _ (else_next _ _ _ free (misheard_no f ∙ ap (λ (h : Heard). h.number) e))

  pub heard-leaves : (x : Asked) (p : Progress) (held left : List ℕ) (a : Answer) → heard_as (Ok x) ≡ asked_by request → Leaves (step (net_in b) (session_of s slab) x.member x.request) p held left slab words
      → a ≡ record { count = p.sent; state = p.state } → leaving (answered s (Ok a)) held left ≡ handled b s slab request words
  unfolding handled request_refusal
  heard-leaves x p held left a e h f =
      judged-done _ _ p _ _ _ _ _ _ (sym (else_next _ _ _ free (ap (λ (h : Heard). h.number) e))) (subst (λ (h : Heard). Leaves (step (net_in b) (session_of s slab) h.member h.request) p held left slab words) e h) f

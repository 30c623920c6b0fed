-- Each entry has one answer: what demand 1 says of it leaves no second.
-- Assumes nothing.
use Prim.Native.Nat.{ℕ, zero, suc}
use native.Mathlib.Omega.{arith}
use mathlib.Core.Path.{◌≡◌, refl, sym, ap, ap₂, subst, ◌∙◌}
use mathlib.Core.List.{List, []}
use lib.Dec.{eqb}
use lib.ListN.{length}
use Rattle.std.proofs.Common.{Result, Ok, Err}
use Rattle.basis.specs.Choice.{pick}
use Rattle.tags.specs.Tags.{tag_le, tag_before, same_tag, least_of, greatest_of, pred_of, less_of, delay_of, words_of, told_by}
use Rattle.plans.specs.declared.Plan.{Plan}
use Rattle.plans.specs.Reading.{reading_of}
use Rattle.routes.specs.Closed.{accepts}
use Rattle.plans.specs.declared.Refusal.{Refusal as PlanRefusal}
use Rattle.plans.specs.Reading.{reading}
use Rattle.plans.proofs.Reasons.{back, refused-back, reading-one}
use Rattle.image.specs.Compiling.{Compiled, compiled, outcome_of, compiled_of, Outcome as Compiles}
use Rattle.recognised.specs.declared.Fault.{Fault as ImageFault}
use Rattle.recognised.specs.declared.Fault.TheVariants.{NoImage as NotImage, TooLong as Overlong}
use Rattle.recognised.specs.Faults.{verdict}
use Rattle.recognised.specs.Recognised.{refusal_in}
use Rattle.states.specs.declared.State.{State}
use Rattle.states.specs.declared.Delivery.{Delivery}
use Rattle.states.specs.Steps.{Out}
use Rattle.rows.specs.Nets.{net_in}
use Rattle.requests.specs.declared.Asked.{Asked}
use Rattle.requests.specs.declared.Fault.{Fault}
use Rattle.requests.specs.Asking.{Heard, heard_as}
use Rattle.members.specs.Codes.{session_of, state_of, slab_of}
use Rattle.states.specs.Records.{fresh_state}
use Rattle.rti.specs.declared.Answer.{Answer}
use Rattle.rti.specs.declared.Refusal.{Refusal}
use Rattle.rti.specs.declared.Refusal.TheVariants.{NoImage, TooLong, Slab, State as IllFormed, Room, Malformed, Far}
use Rattle.rti.specs.Entries.{open_refusal, abort_refusal, request_refusal, Answered, answered, leaving, Outcome, finished_state}
use Rattle.demands.specs.Determined.{Determined, Entries}
use Rattle.demands.specs.Refusals.{First}
use Rattle.demands.specs.Entries.{asker, asking, open_grounds, abort_grounds, request_grounds, Untouched, Sends, Opens, Aborts, Handles}
use Rattle.demands.proofs.Determined.{equated}
use Rattle.demands.proofs.Answers.{one_answer}
use Rattle.demands.proofs.Entries.{open_first, abort-first, request-first}

same_outcome : (o r : Outcome) → o.answer.refusal ≡ r.answer.refusal → o.answer.count ≡ r.answer.count → o.answer.state ≡ r.answer.state → o.slab ≡ r.slab → o.words ≡ r.words → o ≡ r
same_outcome o r a b c d e =
    ap₂ (λ (x : ℕ) (y : ℕ). record { answer = record { refusal = x; count = y; state = o.answer.state }; slab = o.slab; words = o.words }) a b
    ∙ ap₂ (λ (x : State) (y : List ℕ). record { answer = record { refusal = r.answer.refusal; count = r.answer.count; state = x }; slab = y; words = o.words }) c d
    ∙ ap (λ (x : List ℕ). record { answer = r.answer; slab = r.slab; words = x }) e

untouched-one : (n : ℕ) (s : State) (slab words : List ℕ) → Determined (Untouched n s slab words)
untouched-one n s slab words o r h k =
    same_outcome o r (h.number ∙ sym k.number) (h.count ∙ sym k.count) (h.state ∙ sym k.state) (h.slab ∙ sym k.slab) (h.words ∙ sym k.words)

sends-one : (ds : List Delivery) (s : State) (slab words : List ℕ) → Determined (Sends ds s slab words)
sends-one ds s slab words o r h k =
    same_outcome o r (h.number ∙ sym k.number) (h.count ∙ sym k.count) (h.state ∙ sym k.state) (h.slab ∙ sym k.slab) (h.words ∙ sym k.words)

pub one-opening : (b : List ℕ) (identity : ℕ) (slab : List ℕ) → Determined (Opens b identity slab)
one-opening b identity slab o r h k = go (open_refusal b (length slab)) (open_first b slab)
  where
    go : (n : ℕ) → First (open_grounds b slab) n → o ≡ r
    go zero f = sends-one _ _ _ _ o r (h.taken f) (k.taken f)
    go (suc n) f = untouched-one _ _ _ _ o r (h.refused (suc n) (omega arith) f) (k.refused (suc n) (omega arith) f)

pub one-abort : (b : List ℕ) (s : State) (slab : List ℕ) (code : ℕ) (words : List ℕ) → Determined (Aborts b s slab code words)
one-abort b s slab code words o r h k = go (abort_refusal b s slab (length words)) (abort-first b s slab words) s.cause refl
  where
    go : (n : ℕ) → First (abort_grounds b s slab words) n → (c : ℕ) → s.cause ≡ c → o ≡ r
    go zero f zero e = sends-one _ _ _ _ o r (h.going f e) (k.going f e)
    go zero f (suc c) e = sends-one _ _ _ _ o r (h.over f (omega arith)) (k.over f (omega arith))
    go (suc n) f c e = untouched-one _ _ _ _ o r (h.refused (suc n) (omega arith) f) (k.refused (suc n) (omega arith) f)

pub one-handling : (b : List ℕ) (s : State) (slab request words : List ℕ) → Determined (Handles b s slab request words)
one-handling b s slab request words o r h k = go (request_refusal b s slab (length words) request) (request-first b s slab request words)
  where
    alike : (x y : Out) → x ≡ y → Sends x.sent (state_of x.session) (slab_of x.session slab) words o → Sends y.sent (state_of y.session) (slab_of y.session slab) words r → o ≡ r
    alike x y e f g = sends-one _ _ _ _ o r (subst (λ (z : Out). Sends z.sent (state_of z.session) (slab_of z.session slab) words o) e f) g

    go : (n : ℕ) → First (request_grounds b s slab request words) n → o ≡ r
    go zero f =
        let x = h.taken f in
        let y = k.taken f in
        alike x.0 y.0 (one_answer (net_in b) (session_of s slab) (asker request) (asking request) x.0 y.0 x.1 y.1) x.2 y.2
    go (suc n) f = untouched-one _ _ _ _ o r (h.refused (suc n) (omega arith) f) (k.refused (suc n) (omega arith) f)

-- ---- what is said of an answer tells answers apart: there is a way back
apart : {A B : Type 0} (says : A → B) (back : B → A) → ((x : A) → back (says x) ≡ x) → (x y : A) → says x ≡ says y → x ≡ y
apart says back h x y e = sym (h x) ∙ (ap back e ∙ h y)

named : ℕ → Refusal
named n =
    pick (eqb n 11) NoImage (pick (eqb n 12) TooLong (pick (eqb n 13) Slab (pick (eqb n 14) IllFormed (pick (eqb n 15) Room (pick (eqb n 16) Malformed Far)))))

given : Answered → Result Answer Refusal
given a = pick (eqb a.refusal 0) (Ok (record { count = a.count; state = a.state })) (Err (named a.refusal))

given_back : (s : State) (r : Result Answer Refusal) → given (answered s r) ≡ r
unfolding given named
given_back s (Ok a) = refl
given_back s (Err NoImage) = refl
given_back s (Err TooLong) = refl
given_back s (Err Slab) = refl
given_back s (Err IllFormed) = refl
given_back s (Err Room) = refl
given_back s (Err Malformed) = refl
given_back s (Err Far) = refl

meant : Heard → Result Asked Fault
meant h = pick (eqb h.number 0) (Ok (record { member = h.member; request = h.request })) (Err (pick (eqb h.number 16) Fault.Malformed Fault.Far))

meant_back : (r : Result Asked Fault) → meant (heard_as r) ≡ r
unfolding meant
meant_back (Ok a) = refl
meant_back (Err Fault.Malformed) = refl
meant_back (Err Fault.Far) = refl

-- ---- each entry's contract
-- what is said of an outcome says which it is
compiled-back : (r : Result ℕ PlanRefusal) → back (compiled r).refusal (compiled r).total ≡ r
compiled-back (Ok total) = refl
compiled-back (Err r) = refused-back r 0

abbrev fault_back : ℕ → Result (Unit {0}) ImageFault
fault_back m = pick (eqb m 0) (Ok tt) (pick (eqb m 11) (Err NotImage) (Err Overlong))

verdict-back : (r : Result (Unit {0}) ImageFault) → fault_back (verdict r) ≡ r
verdict-back (Ok x) = refl
verdict-back (Err NotImage) = refl
verdict-back (Err Overlong) = refl

verdict-one : (n : ℕ) (r s : Result (Unit {0}) ImageFault) → verdict r ≡ n → verdict s ≡ n → r ≡ s
verdict-one n r s p q = sym (verdict-back r) ∙ ap fault_back (p ∙ sym q) ∙ verdict-back s

written_one : (p : Plan) (answer : Compiled) (out : List ℕ) → Determined (λ (z : Result ℕ PlanRefusal × List ℕ). Compiles answer p out z.1 (compiled z.0))
written_one p answer out x y h k =
    ap₂ (λ (c : Result ℕ PlanRefusal) (l : List ℕ). (c, l))
    (sym (compiled-back x.0) ∙ ap (λ (c : Compiled). back c.refusal c.total) (h.says ∙ sym k.says) ∙ compiled-back y.0)
    (h.leaves ∙ sym k.leaves)

pub determined : Entries
determined =
    record {
      opening = λ plan identity slab x y h k. apart (λ z. leaving (answered (fresh_state 0 0) z.0) z.1 []) (λ o. (given o.answer, o.slab)) (λ z. ap (λ r. (r, z.1)) (given_back (fresh_state 0 0) z.0)) x y (h ∙ sym k);
      handling = λ plan s slab request words x y h k. apart (λ z. leaving (answered s z.0) z.1 z.2) (λ o. (given o.answer, o.slab, o.words)) (λ z. ap (λ r. (r, z.1, z.2)) (given_back s z.0)) x y (h ∙ sym k);
      aborting = λ plan s slab code words x y h k. apart (λ z. leaving (answered s z.0) slab z.1) (λ o. (given o.answer, o.words)) (λ z. ap (λ r. (r, z.1)) (given_back s z.0)) x y (h ∙ sym k);
      finishing = λ s. equated (finished_state s);
      reading = λ bytes. reading-one (reading_of bytes);
      compiling = λ plan out. written_one (reading_of plan).plan (compiled_of plan (length out)) out;
      compiling-plan = λ p out. written_one p (outcome_of p (length out)) out;
      recognising = λ bytes. verdict-one (refusal_in bytes);
      checking = λ bytes walk. equated (accepts bytes walk);
      asking = λ words x y h k. apart heard_as meant meant_back x y (h ∙ sym k);
      delay = λ t d. equated (delay_of t d);
      predecessor = λ t. equated (pred_of t);
      subtract = λ t d. equated (less_of t d);
      at-or-before = λ t u. equated (tag_le t u);
      before = λ t u. equated (tag_before t u);
      equal = λ t u. equated (same_tag t u);
      least = λ t u. equated (least_of t u);
      greatest = λ t u. equated (greatest_of t u);
      words = λ t. equated (words_of t);
      told = λ class offset microstep. equated (told_by class offset microstep);
    }

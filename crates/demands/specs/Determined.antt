-- Determinacy: a promise that leaves one answer; and each entry's promise, as its contract states it, is such a one.
-- Assumes nothing.
use Rattle.std.specs.Prelude.{ℕ, ◌≡◌, Bool, Option, Result, List, [], length}
use Rattle.tags.specs.declared.Tag.{Tag}
use Rattle.tags.specs.declared.Words.{Words}
use Rattle.tags.specs.Tags.{tag_le, tag_before, same_tag, least_of, greatest_of, pred_of, less_of, delay_of, words_of, told_by}
use Rattle.plans.specs.declared.Plan.{Plan}
use Rattle.plans.specs.declared.Refusal.{Refusal as PlanRefusal}
use Rattle.plans.specs.Reading.{reading as said, reading_of}
use Rattle.routes.specs.declared.Walk.{Walk}
use Rattle.routes.specs.Closed.{accepts}
use Rattle.image.specs.Compiling.{compiled, outcome_of, compiled_of, Outcome}
use Rattle.recognised.specs.declared.Fault.{Fault as ImageFault}
use Rattle.recognised.specs.Faults.{verdict}
use Rattle.recognised.specs.Recognised.{refusal_in}
use Rattle.requests.specs.declared.Asked.{Asked}
use Rattle.requests.specs.declared.Fault.{Fault}
use Rattle.requests.specs.Asking.{heard_as, asked_by}
use Rattle.states.specs.declared.State.{State}
use Rattle.states.specs.Records.{fresh_state}
use Rattle.rti.specs.declared.Answer.{Answer}
use Rattle.rti.specs.declared.Refusal.{Refusal}
use Rattle.rti.specs.Entries.{answered, leaving, opened, handled, aborted, finished_state}

-- a second answer meeting it is equal
abbrev pub Determined : {A : Type 0} → (A → Type 0) → Type 0
Determined {A} promise = (x y : A) → promise x → promise y → x ≡ y

-- "Each entry's promise determines its answer, the state and each lent word for any input": the answer, then the words lent for writing.
-- routes::witness and routes::path are the two exceptions; docs/PROMISES.md says why.
pub record Entries : Type 0 where
  -- rti::open: the answer and the slab
  pub opening : (plan : List ℕ) (identity : ℕ) (slab : List ℕ) → Determined (λ (z : Result Answer Refusal × List ℕ). leaving (answered (fresh_state 0 0) z.0) z.1 [] ≡ opened plan identity slab)
  -- rti::handle: the answer, the slab and the delivery words
  pub handling : (plan : List ℕ) (s : State) (slab request words : List ℕ) → Determined (λ (z : Result Answer Refusal × List ℕ × List ℕ). leaving (answered s z.0) z.1 z.2 ≡ handled plan s slab request words)
  -- rti::abort: the answer and the delivery words
  pub aborting : (plan : List ℕ) (s : State) (slab : List ℕ) (code : ℕ) (words : List ℕ) → Determined (λ (z : Result Answer Refusal × List ℕ). leaving (answered s z.0) slab z.1 ≡ aborted plan s slab code words)
  -- rti::finished
  pub finishing : (s : State) → Determined (λ (r : Bool). r ≡ finished_state s)
  -- plans::read
  pub reading : (bytes : List ℕ) → Determined (λ (r : Result Plan PlanRefusal). said r ≡ reading_of bytes)
  -- image::compile: the answer and the output; image::compile_plan the same
  pub compiling : (plan out : List ℕ) → Determined (λ (z : Result ℕ PlanRefusal × List ℕ). Outcome (compiled_of plan (length out)) (reading_of plan).plan out z.1 (compiled z.0))
  pub compiling-plan : (p : Plan) (out : List ℕ) → Determined (λ (z : Result ℕ PlanRefusal × List ℕ). Outcome (outcome_of p (length out)) p out z.1 (compiled z.0))
  -- recognised::recognise
  pub recognising : (bytes : List ℕ) → Determined (λ (r : Result (Unit {0}) ImageFault). verdict r ≡ refusal_in bytes)
  -- routes::check_witness
  pub checking : (bytes : List ℕ) (walk : Walk) → Determined (λ (r : Bool). r ≡ accepts bytes walk)
  -- requests::read
  pub asking : (words : List ℕ) → Determined (λ (r : Result Asked Fault). heard_as r ≡ asked_by words)
  -- tags::Tag: delay, predecessor, subtract; the order; the words
  pub delay : (t : Tag) (d : ℕ) → Determined (λ (r : Option Tag). r ≡ delay_of t d)
  pub predecessor : (t : Tag) → Determined (λ (r : Tag). r ≡ pred_of t)
  pub subtract : (t : Tag) (d : ℕ) → Determined (λ (r : Tag). r ≡ less_of t d)
  pub at-or-before : (t u : Tag) → Determined (λ (r : Bool). r ≡ tag_le t u)
  pub before : (t u : Tag) → Determined (λ (r : Bool). r ≡ tag_before t u)
  pub equal : (t u : Tag) → Determined (λ (r : Bool). r ≡ same_tag t u)
  pub least : (t u : Tag) → Determined (λ (r : Tag). r ≡ least_of t u)
  pub greatest : (t u : Tag) → Determined (λ (r : Tag). r ≡ greatest_of t u)
  pub words : (t : Tag) → Determined (λ (r : Words). r ≡ words_of t)
  pub told : (class offset microstep : ℕ) → Determined (λ (r : Option Tag). r ≡ told_by class offset microstep)

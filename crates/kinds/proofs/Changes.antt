-- One record changed with its stretch of the slab.
-- Assumes nothing.
use Prim.Native.Nat.{ℕ, ◌*◌}
use mathlib.Core.Path.{◌≡◌, ap, subst, ◌∙◌}
use mathlib.Core.Bool.{Bool, false}
use mathlib.Core.List.{List}
use lib.ListN.{length}
use native.Mathlib.Omega.{arith}
use Rattle.std.specs.Prelude.{Option, Some, None, unwrap_or}
use Rattle.basis.specs.Choice.{pick}
use Rattle.basis.specs.Parts.{replaced}
use Rattle.tags.specs.declared.Tag.{Tag}
use Rattle.tags.specs.declared.Tag.TheVariants.{Finite}
use Rattle.tags.specs.Tags.{words_of}
use Rattle.transit.specs.Tags.{insert, after, full, IsFinite}
use Rattle.transit.specs.Words.{slots, lay, stretch, Laid, answer, kept, offset_of, microstep_of}
use Rattle.states.specs.declared.MemberState.{MemberState}
use Rattle.states.specs.declared.State.{State}
use Rattle.states.specs.Records.{record_at, with_record}
use Rattle.rows.specs.Rows.{capacity, edge_target}
use Rattle.records.specs.Records.{completed_record, carrying_record}
use Rattle.kinds.specs.Effects.{Completes, Carries}

pub completing : (s : State) (w : List ℕ) (i : ℕ) (t : Tag) (left : ℕ) (m : MemberState) (r : State) (out : List ℕ)
    → ((lo : Tag) (ts : List Tag) → Laid lo (record_at s i).held (stretch i w) ts → (left ≡ length (after t ts)) × (out ≡ replaced (64 * i) (lay slots (after t ts)) w))
    → m ≡ completed_record (record_at s i) t left → r ≡ with_record s i m → Completes s w i t r out
completing s w i t left m r out g e f =
    record {
      done = λ lo ts h. (
        f ∙ ap (with_record s i) (e ∙ ap (completed_record (record_at s i) t) (g lo ts h).0),
        (g lo ts h).1,
      );
    }

finite-is : (t : Tag) → IsFinite t → Finite (offset_of t) (microstep_of t) ≡ t
finite-is t f = grind arith

-- a tag's words say its offset and its microstep, 0 where it has none
pub offset_said : (t : Tag) → (words_of t).offset ≡ offset_of t
offset_said t = grind arith

pub microstep_said : (t : Tag) → (words_of t).microstep ≡ microstep_of t
microstep_said t = grind arith

pick_no : {A : Type 0} (a : Bool) (x y : A) → a ≡ false → pick a x y ≡ y
pick_no a x y e = rw e

answer_open : (room : ℕ) (t : Tag) (ts : List Tag) → full room t ts ≡ false → answer room t ts ≡ Some (length (insert t ts))
unfolding answer
answer_open room t ts e = pick_no (full room t ts) None (Some (length (insert t ts))) e

kept_open : (room : ℕ) (t : Tag) (ts : List Tag) → full room t ts ≡ false → kept room t ts ≡ insert t ts
unfolding kept
kept_open room t ts e = pick_no (full room t ts) ts (insert t ts) e

pub carrying : (s : State) (w : List ℕ) (j room : ℕ) (t : Tag) (o u : ℕ) (x : Option ℕ) (n : ℕ) (m : MemberState) (r : State) (out : List ℕ)
    → o ≡ offset_of t → u ≡ microstep_of t
    → ((lo : Tag) (ts : List Tag) → Laid lo (record_at s j).held (stretch j w) ts → (x ≡ answer room (Finite o u) ts) × (out ≡ replaced (64 * j) (lay slots (kept room (Finite o u) ts)) w))
    → n ≡ unwrap_or x (record_at s j).held → m ≡ carrying_record (record_at s j) n → r ≡ with_record s j m → Carries s w j room t r out
carrying s w j room t o u x n m r out p q g e f k =
    record {
      done = λ lo ts h fin clear.
          let tag : Finite o u ≡ t = ap (λ (a : ℕ). Finite a u) p ∙ ap (λ (a : ℕ). Finite (offset_of t) a) q ∙ finite-is t fin in
          let stored : x ≡ Some (length (insert t ts)) = (g lo ts h).0 ∙ ap (λ (z : Tag). answer room z ts) tag ∙ answer_open room t ts clear in
          let count : n ≡ length (insert t ts) = e ∙ ap (λ (z : Option ℕ). unwrap_or z (record_at s j).held) stored in (
            k ∙ ap (with_record s j) (f ∙ ap (carrying_record (record_at s j)) count),
            (g lo ts h).1 ∙ ap (λ (z : Tag). replaced (64 * j) (lay slots (kept room z ts)) w) tag ∙ ap (λ (l : List Tag). replaced (64 * j) (lay slots l) w) (kept_open room t ts clear),
          );
    }

-- at the target that a route's row says
pub at_row : (b : List ℕ) (s : State) (w : List ℕ) (k j room : ℕ) (t : Tag) (r : State) (out : List ℕ) → j ≡ edge_target b k → room ≡ capacity b j
    → Carries s w j room t r out → Carries s w (edge_target b k) (capacity b (edge_target b k)) t r out
at_row b s w k j room t r out g f h =
    subst (λ (n : ℕ). Carries s w n (capacity b n) t r out) g (subst (λ (n : ℕ). Carries s w j n t r out) f h)

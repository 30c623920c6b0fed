-- What the types of a state say of it: 32 records, and microsteps of at most M.
-- Assumes nothing.
use Prim.Native.Nat.{ℕ, zero, suc}
use mathlib.Core.Path.{◌≡◌}
use mathlib.Core.List.{List, [], ◌∷◌}
use Rattle.std.proofs.Common.{Option, Some, None}
use native.Mathlib.Omega.{arith}
use lib.ListN.{length, get_or}
use mir.Val.{Val}
use base.Fml.{Fml}
use denote.Shadow.{shadow}
use denote.Array.{each}
use denote.Laws.{Is}
use denote.Struct.Declared.{row}
use Rattle.std.specs.contracts.option.Option.{the_row as OptionOf}
use Rattle.tags.specs.declared.Tag.{Tag}
use Rattle.tags.specs.declared.Tag.TheVariants.{Never, Finite, Forever}
use Rattle.tags.proofs.Laws.{Small}
use Rattle.states.specs.declared.Publication.{Publication}
use Rattle.states.specs.declared.MemberState.{MemberState}
use Rattle.states.specs.declared.State.{State}
use Rattle.states.specs.Records.{blank_record}
use Rattle.states.specs.contracts.Publication as publication
use Rattle.tags.specs.contracts.Tag as tag
use Rattle.states.specs.contracts.MemberState as member
use Rattle.states.specs.contracts.State as state

abbrev pub SmallLimit : Option Tag → Type 0
SmallLimit None = Unit {0}
SmallLimit (Some t) = Small t

abbrev pub SmallEvent : Option Publication → Type 0
SmallEvent None = Unit {0}
SmallEvent (Some p) = SmallLimit p.next

abbrev pub SmallRecord : MemberState → Type 0
SmallRecord r = SmallEvent r.publication × SmallLimit r.completed

pub record Typed (s : State) : Type 0 where
  pub whole : length s.members ≡ 32
  pub small : (i : ℕ) → SmallRecord (get_or s.members i blank_record)

-- ---- every state that the code holds is so
limit-small : (l : Option Tag) (vs : List Val) → Is (OptionOf tag.the_row) l vs → SmallLimit l
limit-small None vs h = tt
limit-small (Some Never) vs h = tt
limit-small (Some (Finite o m)) vs h = omega arith
limit-small (Some Forever) vs h = tt

event-small : (p : Option Publication) (vs : List Val) → Is (OptionOf publication.the_row) p vs → SmallEvent p
event-small None vs h = tt
event-small (Some p) vs h = limit-small p.next _ h.1.1.1.1.0.1.1.1.0

record_small : (r : MemberState) (vs : List Val) → Is (row member.the_type) r vs → SmallRecord r
record_small r vs h = (event-small r.publication _ h.1.1.1.0, limit-small r.completed _ h.1.1.1.1.1.1.1.0)

-- what each element of an array shows
each_at : {A : Type 0} (f : A → List Val → Fml) (P : A → Type 0) → ((x : A) (vs : List Val) → shadow (f x vs) → P x)
    → (xs : List A) (us : List Val) → shadow (each A f xs us) → (z : A) → P z → (i : ℕ) → P (get_or xs i z)
each_at f P one [] us h z p i = p
each_at f P one (x ∷ xs) [] h z p i = absurd h
each_at f P one (x ∷ xs) (u ∷ us) h z p zero = one x (u ∷ []) h.0
each_at f P one (x ∷ xs) (u ∷ us) h z p (suc i) = each_at f P one xs us h.1 z p i

pub typed : (s : State) (vs : List Val) → Is (row state.the_type) s vs → Typed s
typed s vs h =
    let array = h.1.1.0 in
    record {
      whole = array.1.0.1;
      small = each_at (row member.the_type).own_val SmallRecord record_small s.members array.0 array.1.1 blank_record (tt, tt);
    }

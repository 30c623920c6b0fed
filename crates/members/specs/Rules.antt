-- The three rules read off the rows of a compiled plan: loops over rows, over tags by position.
-- Assumes nothing.
use Rattle.std.specs.Prelude.{ℕ, zero, suc, ◌≤◌, ◌<◌, Bool, List, eqb, get_or, set, replicate}
use Rattle.basis.specs.Choice.{pick}
use Rattle.tags.specs.declared.Tag.{Tag}
use Rattle.tags.specs.declared.Tag.TheVariants.{Never, Finite, Forever}
use Rattle.tags.specs.Tags.{least_of, greatest_of, delayed, pred_of, less_of}
use Rattle.transit.specs.Tags.{limit}
use Rattle.transit.specs.Words.{stretch}
use Rattle.states.specs.declared.State.{State}
use Rattle.states.specs.Records.{blank_record}
use Rattle.states.specs.Sessions.{or_never}
use Rattle.states.specs.Rules.{past, earliest}
use Rattle.rows.specs.Rows.{directs, transitives, direct_source, direct_delay, direct_first, direct_count, transitive_source, transitive_delay, transitive_first, transitive_count}
use Rattle.rows.specs.Loops.{over_rows}
use Rattle.members.specs.Codes.{member_of}

-- an offset of at most L
abbrev pub Low : Tag → Type 0
Low Never = Unit {0}
Low (Finite o m) = o ≤ limit
Low Forever = Unit {0}

-- every tag of the list
pub record AllLow (ts : List Tag) : Type 0 where
  pub at : (i : ℕ) → Low (get_or ts i Never)

-- ---- tags by position
-- f at the first k of 32 places, NEVER at the rest
unfoldable pub tags_to : (ℕ → Tag) → ℕ → List Tag
tags_to f zero = replicate 32 Never
tags_to f (suc k) = set (tags_to f k) k (f k)

-- the earliest tag of the record at place i, with its stretch of the slab
abbrev pub earliest_at : State → List ℕ → ℕ → Tag
earliest_at s slab i = earliest (member_of (get_or s.members i blank_record) (stretch i slab))

-- what the record at place i completed, or NEVER
abbrev pub completed_at : State → ℕ → Tag
completed_at s i = or_never (get_or s.members i blank_record).completed

-- ---- the horizon
-- the least of f over c rows from `first` on
unfoldable pub least_in : (ℕ → Tag) → ℕ → ℕ → Tag
least_in f first c = over_rows (λ x k. least_of x (f k)) first c Forever

-- (a) the least earliest-plus-minimum-delay over the first c transitive rows of j
abbrev pub coming_at : List ℕ → List Tag → Tag → ℕ → Tag
coming_at b earliest x k = least_of x (delayed (get_or earliest (transitive_source b k) Never) (transitive_delay b k))

unfoldable pub coming_in : List ℕ → List Tag → ℕ → ℕ → Tag
coming_in b earliest j c = over_rows (coming_at b earliest) (transitive_first b j) c Forever

-- (b) the least over the first c direct rows of j of completed delayed, its predecessor if the delay is positive
abbrev pub done_at : List ℕ → List Tag → Tag → ℕ → Tag
done_at b completed x k = least_of x (past (direct_delay b k) (get_or completed (direct_source b k) Never))

unfoldable pub done_in : List ℕ → List Tag → ℕ → ℕ → Tag
done_in b completed j c = over_rows (done_at b completed) (direct_first b j) c Forever

-- Horizon: greatest of (a), (b) and (c) granted or NEVER
unfoldable pub horizon_in : List ℕ → List Tag → List Tag → Tag → ℕ → Tag
horizon_in b earliest completed granted j =
    greatest_of (greatest_of (pred_of (coming_in b earliest j (transitive_count b j))) (done_in b completed j (direct_count b j))) granted

-- ---- the bounds of all members, from one pass over all transitive rows, target by target
-- x, or t less d if that is less; a member's own row asks nothing
abbrev pub lower : Tag → Tag → ℕ → Bool → Tag
lower x t d own = pick own x (least_of x (less_of t d))

-- the bound of row k's source, from its target j whose earliest tag is t
abbrev pub bound_at : List ℕ → Tag → ℕ → List Tag → ℕ → List Tag
bound_at b t j bs k = set bs (transitive_source b k) (lower (get_or bs (transitive_source b k) Never) t (transitive_delay b k) (eqb (transitive_source b k) j))

-- from the first c transitive rows of j
unfoldable pub bounds_to : List ℕ → Tag → ℕ → ℕ → List Tag → List Tag
bounds_to b t j c bs = over_rows (bound_at b t j) (transitive_first b j) c bs

-- from the first n targets; FOREVER if there are none
unfoldable pub bounds_in : List ℕ → List Tag → ℕ → List Tag
bounds_in b earliest zero = replicate 32 Forever
bounds_in b earliest (suc j) = bounds_to b (get_or earliest j Never) j (transitive_count b j) (bounds_in b earliest j)

-- ---- what a row's delay may be (refusal 12)
pub record Mild (b : List ℕ) : Type 0 where
  pub direct : (k : ℕ) → k < directs b → direct_delay b k ≤ limit
  pub transitive : (k : ℕ) → k < transitives b → transitive_delay b k ≤ limit

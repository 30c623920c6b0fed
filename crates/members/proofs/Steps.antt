-- One more turn of a loop: over members, over the rows that give a least tag, and over those that lower bounds.
-- Assumes nothing.
use Prim.Native.Nat.{ℕ, suc, ◌+◌, ◌-◌, ◌≤◌}
use native.Mathlib.Omega.{arith}
use mathlib.Core.Path.{◌≡◌, refl, ◌∙◌}
use Rattle.std.proofs.Common.{Option, Some, None, unwrap_or}
use mathlib.Core.List.{List}
use native.Mathlib.Numerals.{add-one}
use lib.Dec.{eqb}
use lib.ListN.{get_or, set}
use Rattle.tags.specs.declared.Tag.{Tag}
use Rattle.tags.specs.declared.Tag.TheVariants.{Never}
use Rattle.tags.specs.Tags.{least_of}
use Rattle.states.specs.Sessions.{or_never}
use Rattle.rows.specs.Rows.{transitive_source, transitive_delay, transitive_first, transitive_count}
use Rattle.rows.specs.Loops.{over_rows}
use Rattle.members.specs.Rules.{tags_to, least_in, lower, bounds_to, bounds_in}

-- ---- tags by position: one more
pub tags-more : (f : ℕ → Tag) (k : ℕ) (ts : List Tag) (x : Tag) → ts ≡ tags_to f k → x ≡ f k → set ts k x ≡ tags_to f (k + 1)
unfolding tags_to
tags-more f k ts x p q = rw add-one (cc)

-- what the library says of no tag
pub or-never : (l : Option Tag) → unwrap_or l Never ≡ or_never l
or-never None = refl
or-never (Some t) = refl

-- ---- the least over rows: one row more
pub least-more : (f : ℕ → Tag) (first k : ℕ) (x t y : Tag) → first ≤ k → x ≡ least_in f first (k - first) → t ≡ f k → y ≡ least_of x t → y ≡ least_in f first (k + 1 - first)
unfolding least_in over_rows
least-more f first k x t y l p q r =
    let e : k + 1 - first ≡ suc (k - first) = omega arith in
    let n : first + (k - first) ≡ k = omega arith in
    rw (e, n) (r ∙ rw (p, q))

-- ---- bounds: one row, and one target
pub bound-more : (b : List ℕ) (t : Tag) (j k : ℕ) (bs all : List Tag) (first i d : ℕ) (y : Tag) → first ≤ k → first ≡ transitive_first b j → i ≡ transitive_source b k → d ≡ transitive_delay b k
    → all ≡ bounds_to b t j (k - first) bs → y ≡ lower (get_or all i Never) t d (eqb i j) → set all i y ≡ bounds_to b t j (k + 1 - first) bs
unfolding bounds_to over_rows
bound-more b t j k bs all first i d y l e p q h r =
    let m : k + 1 - first ≡ suc (k - first) = omega arith in
    let n : transitive_first b j + (k - first) ≡ k = omega arith in
    rw (m, n) (cc)

pub bounds-more : (b : List ℕ) (es : List Tag) (j c : ℕ) (bs all : List Tag) → bs ≡ bounds_in b es j → all ≡ bounds_to b (get_or es j Never) j c bs → c ≡ transitive_count b j → all ≡ bounds_in b es (j + 1)
unfolding bounds_in
bounds-more b es j c bs all e h q = rw add-one (cc)

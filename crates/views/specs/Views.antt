-- What a view shows: the compiled plan that it holds, the plan's counts, and a row of it.
-- Assumes nothing.
use Rattle.std.specs.Prelude.{ℕ, ◌≡◌, List}
use Rattle.std.specs.Borrow.{Bor}
use Rattle.rows.specs.Rows.{Laid, members, edges, directs, transitives, downstreams, direct_source, direct_delay, transitive_source, transitive_delay}
use Rattle.views.specs.declared.Counts.{Counts}
use Rattle.views.specs.declared.Row.{Row}
use Rattle.views.specs.declared.View.{View}

-- "counts of members, edges, direct, transitive, downstream rows"
abbrev pub counts_of : List ℕ → Counts
counts_of b = record { members = members b; edges = edges b; directs = directs b; transitives = transitives b; downstreams = downstreams b }

-- a plan with its counts
abbrev pub view_of : Bor (List ℕ) → View
view_of p = record { plan = p; counts = counts_of p.now }

-- "Direct and transitive row: source u32, zero u32, delay u64."
abbrev pub direct_row : List ℕ → ℕ → Row
direct_row b k = record { source = direct_source b k; delay = direct_delay b k }

abbrev pub transitive_row : List ℕ → ℕ → Row
transitive_row b k = record { source = transitive_source b k; delay = transitive_delay b k }

-- a view of bytes that are laid out as a compiled plan, with their own counts
pub record Shows (v : View) : Type 0 where
  pub laid : Laid v.plan.now
  pub counted : v.counts ≡ counts_of v.plan.now

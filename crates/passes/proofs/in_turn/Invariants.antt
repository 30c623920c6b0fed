use Rattle.std.proofs.Common.{◌≡◌, ℕ, Option, ◌+◌, ◌<◌, ◌≤◌}
use Rattle.rows.specs.Loops.{over_all}
use Rattle.passes.specs.declared.Told.{Told}
use Rattle.states.specs.Records.{record_at}
use Rattle.passes.specs.Pages.{Page, on, told}
use Rattle.passes.proofs.in_turn.Given as goal

abbrev pub invariant-loop-j : goal.invariant-loop-j
invariant-loop-j g l =
    (l.p.sent ≤ l.initial.p.sent + l.j)
    × ((f : Page → ℕ → Page) → ((x : Page) (j : ℕ) (t : Option Told) → j < l.n → goal.F-post g l.turn (record_at x.progress.state j) j t → told x j t ≡ f x j) → on l.p l.out ≡ over_all f l.j (on l.initial.p l.initial.out))

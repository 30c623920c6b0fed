use Rattle.std.proofs.Common.{◌≡◌, ◌+◌, ◌≤◌}
use Rattle.rows.specs.Loops.{over_rows}
use Rattle.passes.specs.Pages.{on, grant_by}
use Rattle.passes.proofs.grant_below.Given as goal

abbrev pub invariant-loop-c : goal.invariant-loop-c
invariant-loop-c l = (l.p.sent ≤ l.initial.p.sent + l.c) × (on l.p l.out ≡ over_rows (grant_by l.plan l.times.earliest l.times.completed) l.first l.c (on l.initial.p l.initial.out))

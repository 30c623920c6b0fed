use Rattle.std.proofs.Common.{◌-◌, ◌≤◌, ◌<◌, cond, IfSome}
use Rattle.text.proofs.input.Lines.gather.Given as goal

abbrev pub invariant-loop-newline : goal.invariant-loop-newline
invariant-loop-newline g l = record {
  unread : (l.self.start ≤ l.self.end) × (l.self.end ≤ 131200);
  place : IfSome l.newline (λ i. (l.self.start ≤ i) × (i < l.self.end));
}

abbrev pub decreases-loop-newline : goal.decreases-loop-newline
decreases-loop-newline g l = cond l.self.over 0 (131201 - (l.self.end - l.self.start))

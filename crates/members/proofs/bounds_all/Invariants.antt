use Rattle.std.proofs.Common.{◌≡◌, ◌-◌}
use Rattle.members.specs.Rules.{bounds_to, bounds_in}
use Rattle.members.proofs.bounds_all.Given as goal

abbrev pub invariant-loop-k : goal.invariant-loop-k
invariant-loop-k l = l.all ≡ bounds_to l.plan l.t l.j (l.k - l.first) l.initial.all

abbrev pub invariant-loop-j : goal.invariant-loop-j
invariant-loop-j l = l.all ≡ bounds_in l.plan l.earliest l.j

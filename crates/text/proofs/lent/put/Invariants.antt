use Rattle.std.proofs.Common.{◌≡◌, ◌≤◌, length, take}
use Rattle.text.specs.Output.{and_bytes}
use Rattle.text.proofs.lent.put.Given as goal

abbrev pub invariant-loop-b : goal.invariant-loop-b
invariant-loop-b g l = record {
  size : length l.out ≡ length l.initial.out;
  place : l.at ≤ length l.initial.out → l.next ≤ length l.out;
  gathered : take l.next l.out ≡ and_bytes (length l.initial.out) (take l.at l.initial.out) (take l.b-index l.text);
}

use Rattle.std.proofs.Common.{◌≡◌, take}
use Rattle.text.specs.Output.{and_bytes}
use Rattle.text.proofs.output.Output.put.Given as goal

abbrev pub invariant-loop-b : goal.invariant-loop-b
invariant-loop-b g l = l.self ≡ and_bytes g.row.SIZE l.initial.self (take l.b-index l.text)

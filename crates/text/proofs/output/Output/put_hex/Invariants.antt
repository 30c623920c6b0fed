use Rattle.std.proofs.Common.{◌≡◌, take}
use Rattle.text.specs.Output.{and_bytes, hex_of}
use Rattle.text.proofs.output.Output.put_hex.Given as goal

abbrev pub invariant-loop-b : goal.invariant-loop-b
invariant-loop-b g l = l.self ≡ and_bytes g.row.SIZE l.initial.self (hex_of (take l.b-index l.bytes))

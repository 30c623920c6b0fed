use Rattle.std.proofs.Common.{◌≡◌, drop}
use Rattle.text.specs.Numbers.{read_from}
use Rattle.text.proofs.words.digits.Given as goal

abbrev pub invariant-loop-b : goal.invariant-loop-b
invariant-loop-b l = read_from (drop l.b-index l.word) l.v ≡ read_from l.word 0

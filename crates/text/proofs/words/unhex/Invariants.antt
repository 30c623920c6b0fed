use Rattle.std.proofs.Common.{◌≡◌}
use Rattle.std.proofs.Math.Seq.{paste}
use Rattle.text.specs.Hex.{bytes_in}
use Rattle.text.proofs.words.unhex.Given as goal

abbrev pub invariant-loop-j : goal.invariant-loop-j
invariant-loop-j l = l.out ≡ paste l.initial.out 0 (bytes_in l.word) l.j

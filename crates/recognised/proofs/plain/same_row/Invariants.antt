use Rattle.std.proofs.Common.{◌≡◌, ◌+◌, ◌*◌, ◌<◌, ℕ, get_or}
use Rattle.recognised.specs.Cells.{Tells}
use Rattle.recognised.proofs.plain.same_row.Given as goal

abbrev pub invariant-loop-t : goal.invariant-loop-t
invariant-loop-t l = Tells l.same ((x : ℕ) → x < l.t → get_or l.out (l.s * 32 + x) 0 ≡ get_or l.words (l.s * 32 + x) 0)

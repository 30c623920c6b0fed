use Rattle.std.proofs.Common.{ℕ}
use Rattle.delays.specs.Graph.{plus}
use Rattle.recognised.specs.Words.{table, Passed}
use Rattle.recognised.proofs.plain.pass_row.Given as goal

abbrev pub invariant-loop-t : goal.invariant-loop-t
invariant-loop-t l = Passed l.initial.out l.out l.s (λ (x : ℕ). plus l.w (table l.words l.u x)) l.t

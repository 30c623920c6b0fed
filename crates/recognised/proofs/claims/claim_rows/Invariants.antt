use Rattle.std.proofs.Common.{ℕ, ◌<◌, ◌+◌}
use Rattle.rows.specs.Rows.{field}
use Rattle.rows.specs.Loops.{delay_of}
use Rattle.recognised.specs.Cells.{Filled}
use Rattle.recognised.specs.Words.{brief, Plains}
use Rattle.recognised.proofs.claims.claim_rows.Given as goal

abbrev pub invariant-loop-q : goal.invariant-loop-q
invariant-loop-q l = ((x : ℕ) → x < l.q → field 4 l.place 16 0 (l.k + x) l.plan < l.n)
    × Filled l.initial.m.kinds l.initial.m.values l.m.kinds l.m.values l.t (delay_of (λ (x : ℕ). field 4 l.place 16 0 x l.plan) (λ (x : ℕ). field 8 l.place 16 8 x l.plan) l.k l.q)
    × (((x : ℕ) → x < l.q → field 8 l.place 16 8 (l.k + x) l.plan < brief) → Plains l.initial.m.kinds l.initial.m.values → Plains l.m.kinds l.m.values)

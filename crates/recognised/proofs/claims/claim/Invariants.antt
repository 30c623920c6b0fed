use Rattle.std.proofs.Common.{ℕ, ◌<◌}
use Rattle.rows.specs.Rows.{transitives, transitive_delay}
use Rattle.recognised.specs.Walks.{Readable}
use Rattle.recognised.specs.Words.{brief, Plains}
use Rattle.recognised.proofs.Walks.{Claimed}
use Rattle.recognised.proofs.claims.claim.Given as goal

abbrev pub invariant-loop-t : goal.invariant-loop-t
invariant-loop-t l = ((x : ℕ) → x < l.t → Readable l.plan x) × Claimed l.plan l.m.kinds l.m.values l.t
    × (((k : ℕ) → k < transitives l.plan → transitive_delay l.plan k < brief) → Plains l.initial.m.kinds l.initial.m.values → Plains l.m.kinds l.m.values)

use Rattle.std.proofs.Common.{◌≡◌, ℕ, ◌-◌}
use Rattle.tags.specs.declared.Tag.{Tag}
use Rattle.members.specs.Rules.{least_in}
use Rattle.members.proofs.least_over.Given as goal

abbrev pub invariant-loop-k : goal.invariant-loop-k
invariant-loop-k g l = (f : ℕ → Tag) → ((k : ℕ) (t : Tag) → goal.F-post g l.row k t → t ≡ f k) → l.x ≡ least_in f l.first (l.k - l.first)

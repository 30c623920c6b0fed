use Rattle.std.proofs.Common.{◌≡◌, ◌<◌, ℕ}
use Rattle.tags.specs.declared.Tag.{Tag}
use Rattle.members.specs.Rules.{tags_to}
use Rattle.members.proofs.tags_of.Given as goal

abbrev pub invariant-loop-i : goal.invariant-loop-i
invariant-loop-i g l = (f : ℕ → Tag) → ((k : ℕ) (t : Tag) → k < l.n → goal.F-post g l.tag k t → t ≡ f k) → l.all ≡ tags_to f l.i

use Rattle.std.proofs.Common.{rules}
use Rattle.std.proofs.Common.{◌≡◌, ℕ, ◌+◌, ◌*◌, ◌<◌, get_or}
use Rattle.recognised.proofs.Cells.{all-tells, tells_yes, tells_no}
use Rattle.recognised.proofs.plain.same_rows.Goals as goal

pub returns : goal.returns
returns c = all-tells _ _ _ (λ s. (t : ℕ) → t < c.args.n → get_or c.args.out.now (s * 32 + t) 0 ≡ get_or c.args.words.now (s * 32 + t) 0) c.all.ensures.ran (λ x q k. search (rules, tells_yes)) (λ x q k. search (rules, tells_no))

use Rattle.std.proofs.Common.{rules}
use Rattle.basis.proofs.Numbers.{eight-read, eight-halves}
use Rattle.basis.proofs.read_u64.Goals as goal

pub returns : goal.returns
returns c = search (rules, eight-read, eight-halves)

use Rattle.std.proofs.Common.{rules, ◌∙◌}
use Rattle.basis.proofs.Numbers.{le-at}
use Rattle.basis.proofs.read_u32.Goals as goal

pub returns : goal.returns
returns c = c.from_le_bytes.ensures ∙ le-at 3 c.args.at c.args.b.now c.unwrap.result c.requires (search rules)

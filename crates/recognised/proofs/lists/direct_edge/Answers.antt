use Rattle.std.proofs.Common.{◌≡◌, arith, min}
use Rattle.delays.specs.Graph.{far}
use Rattle.recognised.proofs.lists.direct_edge.Goals as goal

pub overflow_mul-p : goal.overflow_mul-p
overflow_mul-p c = let R = c.requires.0.edge c.args.k c.requires.1 in
    omega (arith, R.from, R.to, c.requires.0.header.few)

pub overflow_add-p : goal.overflow_add-p
overflow_add-p c = let R = c.requires.0.edge c.args.k c.requires.1 in
    omega (arith, R.from, R.to, c.requires.0.header.few)

pub lower-requires : goal.lower-requires
lower-requires c = let R = c.requires.0.edge c.args.k c.requires.1 in
    omega (arith, R.from, R.to, c.requires.0.header.few)

pub returns : goal.returns
returns c = let e : min c.edge_delay.result far ≡ c.edge_delay.result = omega arith in
    rw (← c.edge_source.ensures, ← c.edge_target.ensures, ← c.edge_delay.ensures, ← e) c.lower.ensures

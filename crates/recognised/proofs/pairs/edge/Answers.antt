use Rattle.std.proofs.Common.{arith}
use Rattle.recognised.proofs.pairs.edge.Goals as goal

pub sweep-requires : goal.sweep-requires
sweep-requires c = let R = c.requires.0.edge c.args.k c.requires.2 in
    omega (arith, R.from, R.to, c.requires.0.header.few)

pub returns : goal.returns
returns c = rw (← c.edge_source-s.ensures, ← c.edge_target-u.ensures, ← c.edge_delay-w.ensures) c.sweep.ensures

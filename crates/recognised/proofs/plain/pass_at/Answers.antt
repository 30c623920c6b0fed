use Rattle.std.proofs.Common.{arith}
use Rattle.recognised.proofs.plain.pass_at.Goals as goal

pub pass_edge-requires : goal.pass_edge-requires
pass_edge-requires c = let R = c.requires.0.edge c.args.k c.requires.2 in
    let h = c.requires.0.header.few in
    (omega (arith, R.from), omega (arith, R.to), omega arith, omega arith, c.requires.4)

pub returns : goal.returns
returns c = rw (← c.edge_source-s.ensures, ← c.edge_target-u.ensures, ← c.edge_delay-w.ensures) c.pass_edge.ensures

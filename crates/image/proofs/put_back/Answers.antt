use Rattle.std.proofs.Common.{◌++◌, arith}
use Rattle.image.specs.Writing.{source_bytes, sources_bytes, source_table, target_bytes, targets_bytes, target_table, back_bytes}
use Rattle.image.proofs.Puts.{room-front, room-middle, room-last, put_three}
use Rattle.image.proofs.put_back.Goals as goal

pub put_table-transitive-requires : goal.put_table-transitive-requires
unfolding back_bytes source_table sources_bytes source_bytes target_table targets_bytes target_bytes
put_table-transitive-requires c = (omega arith, room-front c.args.at (source_table c.args.directs.now.kinds c.args.directs.now.values c.args.n) (source_table c.args.minima.now.kinds c.args.minima.now.values c.args.n ++ target_table c.args.minima.now.kinds c.args.n) c.args.out.now c.requires.1)

pub put_table-downstream-requires : goal.put_table-downstream-requires
unfolding back_bytes source_table sources_bytes source_bytes target_table targets_bytes target_bytes
put_table-downstream-requires c = (omega arith, room-middle (source_table c.args.minima.now.kinds c.args.minima.now.values c.args.n) (target_table c.args.minima.now.kinds c.args.n) c.requires.1 c.put_table-transitive.ensures)

pub put_table-requires : goal.put_table-requires
unfolding back_bytes source_table sources_bytes source_bytes target_table targets_bytes target_bytes
put_table-requires c = (omega arith, room-last (target_table c.args.minima.now.kinds c.args.n) c.requires.1 c.put_table-transitive.ensures c.put_table-downstream.ensures)

pub returns : goal.returns
unfolding back_bytes source_table sources_bytes source_bytes target_table targets_bytes target_bytes
returns c = put_three c.requires.1 c.put_table-transitive.ensures c.put_table-downstream.ensures c.put_table.ensures

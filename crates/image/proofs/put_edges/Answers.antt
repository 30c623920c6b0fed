use Rattle.std.proofs.Common.{get_or, arith}
use Rattle.image.specs.Writing.{edges_bytes}
use Rattle.image.proofs.Rows.{length-edge}
use Rattle.image.proofs.Puts.{go-first, go-room, go_on, go-length, go-last}
use Rattle.image.proofs.put_edges.Goals as goal

pub loop-k-init : goal.loop-k-init
unfolding edges_bytes
loop-k-init c = go-first _ _ _ _ c.requires.1

pub put_edge-next-requires : goal.put_edge-next-requires
put_edge-next-requires c = omega (arith, go-room c.loop-k.invariant (omega arith), length-edge (get_or c.args.p.now.routes c.loop-k.k 0) (get_or c.args.p.now.sources c.loop-k.k 0) (get_or c.args.p.now.targets c.loop-k.k 0) (get_or c.args.p.now.delays c.loop-k.k 0))

pub loop-k-preserved : goal.loop-k-preserved
loop-k-preserved c = go_on c.loop-k.invariant (omega arith) c.put_edge-next.ensures

pub shape_of-out : goal.shape_of-out
shape_of-out c = go-length c.loop-k.invariant (omega arith)

pub returns : goal.returns
unfolding edges_bytes
returns c = go-last c.loop-k.invariant (omega arith)

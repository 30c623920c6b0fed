use Rattle.std.proofs.Common.{arith}
use Rattle.image.proofs.Puts.{go-first, go-room, go_on, go-length, go-last}
use Rattle.image.proofs.put_table.Goals as goal

pub loop-t-init : goal.loop-t-init
loop-t-init g c = go-first _ _ _ _ c.requires.1

pub put_list-next-requires : goal.put_list-next-requires
put_list-next-requires g c = (omega arith, omega arith, go-room c.loop-t.invariant (omega arith))

pub loop-t-preserved : goal.loop-t-preserved
loop-t-preserved g c = go_on c.loop-t.invariant (omega arith) c.put_list-next.ensures

pub shape_of-out : goal.shape_of-out
shape_of-out g c = go-length c.loop-t.invariant (omega arith)

pub returns : goal.returns
returns g c = go-last c.loop-t.invariant (omega arith)

use Rattle.std.proofs.Common.{arith}
use Rattle.image.proofs.Puts.{go-first, go-room, go_on, go-length, go-last}
use Rattle.image.proofs.put_list.Goals as goal

pub loop-s-init : goal.loop-s-init
loop-s-init g c = go-first _ _ _ _ c.requires.2

pub put_listed-next-requires : goal.put_listed-next-requires
put_listed-next-requires g c = (omega arith, omega arith, go-room c.loop-s.invariant (omega arith))

pub loop-s-preserved : goal.loop-s-preserved
loop-s-preserved g c = go_on c.loop-s.invariant (omega arith) c.put_listed-next.ensures

pub shape_of-out : goal.shape_of-out
shape_of-out g c = go-length c.loop-s.invariant (omega arith)

pub returns : goal.returns
returns g c = go-last c.loop-s.invariant (omega arith)

use native.Mathlib.Omega.{arith}
use lib.ListN.{get_or}
use Rattle.basis.specs.Numbers.{bytes}
use Rattle.basis.proofs.Numbers.{length-bytes}
use Rattle.image.proofs.Tables.{laid-all}
use Rattle.image.proofs.Puts.{go-first, go-room, go_on, go-length, go-last, small_at}
use Rattle.image.proofs.put_words.Goals as goal

pub loop-w-init : goal.loop-w-init
loop-w-init c = go-first _ _ _ _ (rw (laid-all (bytes 4) 0 c.args.ws.now) c.requires.0)

pub put_u32-next-requires : goal.put_u32-next-requires
put_u32-next-requires c = (omega (arith, go-room c.loop-w.invariant (omega arith), length-bytes 4 (get_or c.args.ws.now c.loop-w.w-index 0)), small_at c.args.ws.now c.loop-w.w-index c.requires.1 (omega arith))

pub loop-w-preserved : goal.loop-w-preserved
loop-w-preserved c = go_on c.loop-w.invariant (omega arith) c.put_u32-next.ensures

pub shape_of-out : goal.shape_of-out
shape_of-out c = go-length c.loop-w.invariant (omega arith)

pub returns : goal.returns
returns c = rw (← laid-all (bytes 4) 0 c.args.ws.now) (go-last c.loop-w.invariant (omega arith))

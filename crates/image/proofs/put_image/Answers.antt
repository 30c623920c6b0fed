use Rattle.image.specs.Writing.{front_bytes, back_bytes}
use Rattle.image.proofs.Puts.{room-front, room-rest, put_both}
use Rattle.image.proofs.put_image.Goals as goal

pub put_front-next-requires : goal.put_front-next-requires
put_front-next-requires c = (c.requires.0, room-front 0 (front_bytes c.args.p.now c.args.directs.now.kinds c.args.minima.now.kinds c.args.rows.direct c.args.rows.transitive c.args.rows.downstream) (back_bytes c.args.directs.now.kinds c.args.directs.now.values c.args.minima.now.kinds c.args.minima.now.values c.args.p.now.members) c.args.out.now c.requires.1)

pub put_back-requires : goal.put_back-requires
put_back-requires c = (c.requires.0.few, room-rest (back_bytes c.args.directs.now.kinds c.args.directs.now.values c.args.minima.now.kinds c.args.minima.now.values c.args.p.now.members) c.requires.1 c.put_front-next.ensures)

pub returns : goal.returns
returns c = put_both c.requires.1 c.put_front-next.ensures c.put_back.ensures

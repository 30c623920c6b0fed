use Rattle.std.proofs.Common.{◌≡◌, ◌∙◌, arith}
use Rattle.image.specs.Image.{total_of}
use Rattle.image.proofs.Outcomes.{short, long}
use Rattle.image.proofs.Plans.{counted_by, few-rows, image-is, image-room, total-is}
use Rattle.image.proofs.fit.Goals as goal

pub invariant_of-rows : goal.invariant_of-rows
invariant_of-rows c = let rows = counted_by c.args.p.now c.args.directs.now.kinds c.args.directs.now.values c.args.minima.now.kinds c.args.minima.now.values _ _ _ c.requires.0.few c.requires.1 c.requires.2 c.total.ensures c.total-2.ensures c.total-3.ensures in record { few = few-rows rows }

pub returns-then-out-end : goal.returns-then-out-end
returns-then-out-end c = let rows = counted_by c.args.p.now c.args.directs.now.kinds c.args.directs.now.values c.args.minima.now.kinds c.args.minima.now.values _ _ _ c.requires.0.few c.requires.1 c.requires.2 c.total.ensures c.total-2.ensures c.total-3.ensures in
    short c.args.p.now c.args.out.now (omega (arith, c.if-out-end.true, c.end_of-end.ensures, total-is rows))

pub put_image-requires : goal.put_image-requires
put_image-requires c = let rows = counted_by c.args.p.now c.args.directs.now.kinds c.args.directs.now.values c.args.minima.now.kinds c.args.minima.now.values _ _ _ c.requires.0.few c.requires.1 c.requires.2 c.total.ensures c.total-2.ensures c.total-3.ensures in
    (c.requires.0, image-room rows c.args.out.now (omega (arith, c.if-out-end.false, c.end_of-end.ensures)))

pub returns : goal.returns
returns c = let rows = counted_by c.args.p.now c.args.directs.now.kinds c.args.directs.now.values c.args.minima.now.kinds c.args.minima.now.values _ _ _ c.requires.0.few c.requires.1 c.requires.2 c.total.ensures c.total-2.ensures c.total-3.ensures in
    let end : c.end_of-end.result ≡ total_of c.args.p.now = c.end_of-end.ensures ∙ total-is rows in
    long c.args.p.now c.args.out.now end (omega (arith, c.if-out-end.false)) (rw (image-is rows) at c.put_image.ensures)

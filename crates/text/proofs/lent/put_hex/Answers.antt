use Rattle.std.proofs.Common.{◌∙◌, length, take, arith}
use Rattle.text.proofs.Gathered.{hex-more}
use Rattle.text.proofs.lent.put_hex.Goals as goal

pub loop-b-preserved : goal.loop-b-preserved
loop-b-preserved g c =
    let l = c.loop-b in
    let h = hex-more (length c.args.out.now) (take c.args.at c.args.out.now) c.args.bytes.now l.b-index (omega arith) in
    record {
      size = c.in_ok-next-2.ensures.size ∙ c.in_ok-next.ensures.size ∙ l.invariant.size;
      place = λ _. c.in_ok-next-2.ensures.place;
      gathered = cc (c.in_ok-next-2.ensures.gathered, c.in_ok-next.ensures.gathered, l.invariant.size, l.invariant.gathered);
    }

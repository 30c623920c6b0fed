use Rattle.std.proofs.Common.{arith}
use Rattle.text.proofs.Gathered.{hex-more}
use Rattle.text.proofs.output.Output.put_hex.Goals as goal

pub loop-b-preserved : goal.loop-b-preserved
loop-b-preserved g c =
    let h = hex-more g.row.SIZE c.args.self.now c.args.bytes.now c.loop-b.b-index (omega arith) in
    cc (c.in_ok-put_byte.ensures, c.in_ok-put_byte-2.ensures)

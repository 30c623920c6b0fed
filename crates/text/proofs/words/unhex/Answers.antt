use Rattle.std.proofs.Common.{ℕ, ◌≡◌, ◌+◌, ◌≤◌, List, length, get_or, set, arith, ap, sym, ◌∙◌}
use Rattle.text.specs.Hex.{bytes_in}
use Rattle.text.proofs.Hex.{bytes-enough, bytes-at, paste-front}
use Rattle.text.proofs.words.unhex.Goals as goal

pub loop-j-preserved : goal.loop-j-preserved
loop-j-preserved c =
    let l = c.loop-j in
    let w = c.args.word.now in
    let k : l.j + 1 ≤ length (bytes_in w) = bytes-enough w (l.j + 1) (omega arith) in
    let e : c.byte_of.result ≡ get_or (bytes_in w) l.j 0 = c.byte_of.ensures ∙ sym (bytes-at w l.j (omega arith)) in
    ap (λ (o : List ℕ). set o l.j c.byte_of.result) l.invariant
    ∙ paste-front c.args.out.now (bytes_in w) l.j c.byte_of.result (omega arith) (omega arith) e

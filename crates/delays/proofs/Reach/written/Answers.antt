use Rattle.std.proofs.Common.{refl, arith}
use Rattle.delays.proofs.Cells.{kind-near, kind-far, kind-none, word-near, word-far, word-none, cell_cut, cell-far, cell-none}
use Rattle.delays.proofs.Reach.written.Goals as goal

pub returns-in-At : goal.returns-in-At
returns-in-At c =
    let d = c.in-At.d in
    rw c.in-At.is (record { kind = kind-near d (omega arith); word = word-near d (omega arith); back = cell_cut 0 d refl })

pub returns-in-TooFar : goal.returns-in-TooFar
returns-in-TooFar c = rw c.in-TooFar.is (record { kind = kind-far; word = word-far; back = cell-far 1 0 refl })

pub returns-in-None : goal.returns-in-None
returns-in-None c = rw c.in-None.is (record { kind = kind-none; word = word-none; back = cell-none 2 0 (omega arith) })

use Rattle.rti.specs.Entries.{finished_state}
use mathlib.Core.Path.{◌≡◌}
use mathlib.Core.Bool.{true}
use lib.Dec.{ltb}
use borrow.Author.Tests.{lt-ltb, le-ltb, lt-leb}
use Rattle.rti.proofs.finished.Goals as goal

pub returns-then-s-gt0 : goal.returns-then-s-gt0
unfolding finished_state
returns-then-s-gt0 c = simp (lt-ltb _ _ c.if-s-gt0.true)

pub returns-then-s-le32 : goal.returns-then-s-le32
unfolding finished_state
returns-then-s-le32 c = simp (le-ltb _ _ c.if-s-gt0.false, le-ltb _ _ c.if-s-le32.true) c.all_stopped.ensures

pub returns-else-s-le32 : goal.returns-else-s-le32
unfolding finished_state
returns-else-s-le32 c =
    let e : ltb 32 c.args.s.count ≡ true = lt-ltb _ _ c.if-s-le32.false in
    simp (le-ltb _ _ c.if-s-gt0.false, e) (lt-leb _ _ c.if-s-le32.false)

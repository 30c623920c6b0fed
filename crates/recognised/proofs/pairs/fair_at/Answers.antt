use Rattle.delays.specs.Cells.{grid}
use Rattle.recognised.proofs.pairs.fair_at.Goals as goal

pub returns : goal.returns
unfolding grid
returns c = rw (← c.get.ensures.number, ← c.get-2.ensures.number) c.fair.ensures

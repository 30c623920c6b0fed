use Rattle.delays.specs.Cells.{grid}
use Rattle.delays.proofs.Matrix.reach.Goals as goal

pub returns : goal.returns
unfolding grid
returns c = c.get.ensures.view

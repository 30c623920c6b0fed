use Rattle.delays.specs.Cells.{grid}
use Rattle.recognised.proofs.Cells.{near-value}
use Rattle.recognised.proofs.lists.SourcesListing.stands.Goals as goal

pub returns : goal.returns
unfolding grid
returns c = rw (near-value _ _ c.requires.3) c.source_row.ensures

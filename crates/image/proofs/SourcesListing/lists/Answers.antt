use Rattle.std.proofs.Common.{rules}
use Rattle.image.specs.Writing.{held}
use Rattle.image.proofs.SourcesListing.lists.Goals as goal

pub returns : goal.returns
unfolding held
returns c = search rules

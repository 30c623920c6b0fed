use Rattle.std.proofs.Common.{get_or, ◌+◌, ◌*◌, arith}
use Rattle.delays.specs.Lists.{Source}
use Rattle.image.proofs.Rows.{length-source}
use Rattle.image.proofs.SourcesListing.put.Goals as goal

pub put_source-requires : goal.put_source-requires
put_source-requires c = let row : Source = record { source = c.args.s; delay = get_or c.args.m.now.values (c.args.s * 32 + c.args.t) 0 } in (omega (arith, length-source row), omega arith)

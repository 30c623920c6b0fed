use Rattle.std.proofs.Common.{◌+◌, ◌-◌, ◌*◌}
use Rattle.routes.specs.Trails.{seen_of, unvisited}
use Rattle.routes.proofs.+scan_visit.Given as goal

abbrev pub decreases-scan : goal.decreases-scan
decreases-scan l = unvisited (seen_of l.seen.now) * 257 + (256 - l.edge)

abbrev pub decreases-visit : goal.decreases-visit
decreases-visit l = unvisited (seen_of l.seen.now) * 257

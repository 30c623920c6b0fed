use Rattle.std.proofs.Common.{◌≡◌, true, false, arith, sym, ◌∙◌}
use Rattle.image.proofs.Puts.{put-none}
use Rattle.image.proofs.put_listed.Goals as goal

pub put-requires : goal.put-requires
put-requires g c = let e : g.L.Listing.listed c.args.m.now.kinds c.args.t c.args.s ≡ true = sym c.lists.ensures ∙ c.if-lists.true in (omega arith, omega arith, rw e at c.requires.2)

pub returns-then-lists : goal.returns-then-lists
returns-then-lists g c = let e : g.L.Listing.listed c.args.m.now.kinds c.args.t c.args.s ≡ true = sym c.lists.ensures ∙ c.if-lists.true in rw e c.put.ensures

pub returns-else-lists : goal.returns-else-lists
returns-else-lists g c = let e : g.L.Listing.listed c.args.m.now.kinds c.args.t c.args.s ≡ false = sym c.lists.ensures ∙ c.if-lists.false in rw e (put-none _ _)

use Rattle.std.proofs.Common.{◌++◌, ◌≤◌, length, arith}
use Rattle.image.specs.Image.{header_of}
use Rattle.image.specs.Writing.{members_bytes, edges_bytes, front_bytes}
use Rattle.image.proofs.Puts.{room-front, room-middle, room-last, put_three}
use Rattle.image.proofs.Rows.{length-header}
use Rattle.image.proofs.put_front.Goals as goal

pub put_header-members-requires : goal.put_header-members-requires
unfolding front_bytes
put_header-members-requires c = let p = c.args.p.now in
    let room : 48 ≤ length c.args.out.now = omega (arith, room-front 0 (header_of p.members p.edges c.args.rows.direct c.args.rows.transitive c.args.rows.downstream) (members_bytes p.ids p.capacities c.args.directs.now.kinds c.args.minima.now.kinds p.members ++ edges_bytes p.routes p.sources p.targets p.delays p.edges) c.args.out.now c.requires.1, length-header p.members p.edges c.args.rows.direct c.args.rows.transitive c.args.rows.downstream) in
    (room, c.requires.0.few, c.requires.0.routed)

pub put_members-edges-requires : goal.put_members-edges-requires
unfolding front_bytes
put_members-edges-requires c = let p = c.args.p.now in
    (c.requires.0, room-middle (members_bytes p.ids p.capacities c.args.directs.now.kinds c.args.minima.now.kinds p.members) (edges_bytes p.routes p.sources p.targets p.delays p.edges) c.requires.1 c.put_header-members.ensures)

pub put_edges-requires : goal.put_edges-requires
unfolding front_bytes
put_edges-requires c = let p = c.args.p.now in
    (c.requires.0, room-last (edges_bytes p.routes p.sources p.targets p.delays p.edges) c.requires.1 c.put_header-members.ensures c.put_members-edges.ensures)

pub returns : goal.returns
unfolding front_bytes
returns c = put_three c.requires.1 c.put_header-members.ensures c.put_members-edges.ensures c.put_edges.ensures

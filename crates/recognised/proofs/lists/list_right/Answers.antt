use Rattle.std.proofs.Common.{◌≡◌, ◌+◌, arith, sym, ◌∙◌}
use Rattle.delays.specs.Cells.{grid}
use Rattle.recognised.proofs.Walks.{list-none, list-held, list-skip, list_row}
use Rattle.recognised.proofs.Cells.{tells_false}
use Rattle.recognised.proofs.lists.list_right.Goals as goal
use Rattle.recognised.proofs.lists.list_right.Goals.{then-q-c-via-then-q-c, then-q-c-via-else-q-c+then-not-stands, then-lists+else-q-c+else-not-stands, else-lists}

pub loop-x-init : goal.loop-x-init
loop-x-init g c = (omega arith, list-none (g.L.Listing.bytes (grid c.args.m.now.kinds c.args.m.now.values) c.args.t) g.L.Listing.size (g.L.Listing.wide (grid c.args.m.now.kinds c.args.m.now.values) c.args.t) c.args.plan.now c.args.place c.args.k (g.L.Listing.listed (grid c.args.m.now.kinds c.args.m.now.values) c.args.t) c.args.c c.requires.3)

pub returns-then-q-c : goal.returns-then-q-c
returns-then-q-c g c = let l = c.loop-x in
    tells_false (λ X.
    let r = list_row (g.L.Listing.bytes (grid c.args.m.now.kinds c.args.m.now.values) c.args.t) g.L.Listing.size (g.L.Listing.wide (grid c.args.m.now.kinds c.args.m.now.values) c.args.t) c.args.plan.now c.args.place c.args.k (g.L.Listing.listed (grid c.args.m.now.kinds c.args.m.now.values) c.args.t) l.x c.args.n l.q c.args.c (omega arith) (sym c.lists.ensures ∙ c.if-lists.true) l.invariant.1 X in
    elim c.then-q-c.branch [
      | then-q-c-via-then-q-c w ↦ omega arith
      | then-q-c-via-else-q-c+then-not-stands w ↦ w.stands.ensures.wrong w.if-not-stands.true r.1
    ])

pub loop-x-preserved : goal.loop-x-preserved
loop-x-preserved g c = let l = c.loop-x in
    elim c.if-lists.branch [
      | then-lists+else-q-c+else-not-stands w ↦ let e : c.if-lists.q ≡ l.q + 1 = omega arith in
          (omega arith, rw e (list-held (g.L.Listing.bytes (grid c.args.m.now.kinds c.args.m.now.values) c.args.t) g.L.Listing.size (g.L.Listing.wide (grid c.args.m.now.kinds c.args.m.now.values) c.args.t) c.args.plan.now c.args.place c.args.k (g.L.Listing.listed (grid c.args.m.now.kinds c.args.m.now.values) c.args.t) l.x l.q (sym c.lists.ensures ∙ w.if-lists.true) (w.stands.ensures.right w.if-not-stands.false) l.invariant.1))
      | else-lists w ↦ let e : c.if-lists.q ≡ l.q = omega arith in
          (omega arith, rw e (list-skip (g.L.Listing.bytes (grid c.args.m.now.kinds c.args.m.now.values) c.args.t) g.L.Listing.size (g.L.Listing.wide (grid c.args.m.now.kinds c.args.m.now.values) c.args.t) c.args.plan.now c.args.place c.args.k (g.L.Listing.listed (grid c.args.m.now.kinds c.args.m.now.values) c.args.t) l.x l.q (sym c.lists.ensures ∙ w.if-lists.false) l.invariant.1))
    ]

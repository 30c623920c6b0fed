use Rattle.std.proofs.Common.{ℕ, ◌+◌, List, map, arith}
use Rattle.rows.specs.Rows.{field}
use Rattle.delays.specs.Lists.{passing}
use Rattle.delays.specs.Cells.{grid}
use Rattle.recognised.proofs.Walks.{parts_none, parts_more, parts-no, rowed-bytes, bytes-rowed}
use Rattle.recognised.proofs.Cells.{tells_false}
use Rattle.recognised.proofs.lists.table_right.Goals as goal

pub loop-t-init : goal.loop-t-init
loop-t-init g c = (omega arith, parts_none c.args.plan.now (λ (xs : List ℕ). xs) c.args.place g.L.Listing.size c.args.rows (λ (x : ℕ). field 4 48 40 c.args.offset x c.args.plan.now) (λ (x : ℕ). field 4 48 40 (c.args.offset + 4) x c.args.plan.now) (λ (x : ℕ). map (g.L.Listing.bytes (grid c.args.m.now.kinds c.args.m.now.values) x) (passing (g.L.Listing.listed (grid c.args.m.now.kinds c.args.m.now.values) x) c.args.n)) c.args.n)

pub returns-then-not-member_right : goal.returns-then-not-member_right
returns-then-not-member_right g c = let l = c.loop-t in
    tells_false (λ T.
    let r = parts-no c.args.plan.now (λ (xs : List ℕ). xs) c.args.place g.L.Listing.size c.args.rows (λ (x : ℕ). field 4 48 40 c.args.offset x c.args.plan.now) (λ (x : ℕ). field 4 48 40 (c.args.offset + 4) x c.args.plan.now) (λ (x : ℕ). map (g.L.Listing.bytes (grid c.args.m.now.kinds c.args.m.now.values) x) (passing (g.L.Listing.listed (grid c.args.m.now.kinds c.args.m.now.values) x) c.args.n)) c.args.n l.t l.k (omega arith) l.invariant.1 T in
    c.member_right.ensures.wrong c.if-not-member_right.true (bytes-rowed c.args.plan.now c.args.place g.L.Listing.size l.k (field 4 48 40 c.args.offset l.t c.args.plan.now) (field 4 48 40 (c.args.offset + 4) l.t c.args.plan.now) (g.L.Listing.bytes (grid c.args.m.now.kinds c.args.m.now.values) l.t) (passing (g.L.Listing.listed (grid c.args.m.now.kinds c.args.m.now.values) l.t) c.args.n) r.0, r.1))

pub loop-t-preserved : goal.loop-t-preserved
loop-t-preserved g c = let l = c.loop-t in
    let r = c.member_right.ensures.right c.if-not-member_right.false in
    (let z = r.1 in omega arith, parts_more c.args.plan.now (λ (xs : List ℕ). xs) c.args.place g.L.Listing.size c.args.rows (λ (x : ℕ). field 4 48 40 c.args.offset x c.args.plan.now) (λ (x : ℕ). field 4 48 40 (c.args.offset + 4) x c.args.plan.now) (λ (x : ℕ). map (g.L.Listing.bytes (grid c.args.m.now.kinds c.args.m.now.values) x) (passing (g.L.Listing.listed (grid c.args.m.now.kinds c.args.m.now.values) x) c.args.n)) c.args.n l.t l.k _ l.invariant.1 (rowed-bytes c.args.plan.now c.args.place g.L.Listing.size l.k (field 4 48 40 c.args.offset l.t c.args.plan.now) (field 4 48 40 (c.args.offset + 4) l.t c.args.plan.now) (g.L.Listing.bytes (grid c.args.m.now.kinds c.args.m.now.values) l.t) (passing (g.L.Listing.listed (grid c.args.m.now.kinds c.args.m.now.values) l.t) c.args.n) r.0) c.field-k.ensures)

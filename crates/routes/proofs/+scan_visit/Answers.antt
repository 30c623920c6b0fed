use Rattle.std.proofs.Common.{◌≡◌, ◌<◌, None, get_or, sym, ap, ◌∙◌, arith, rules}
use Rattle.routes.specs.Trails.{kept_of, seen_no, seen_of}
use Rattle.routes.proofs.Trails.{leaving_true, leaves-on, seen-at, marked_seen, stands_seen, steps, repeats}
use Rattle.routes.proofs.+scan_visit.Goals as goal

pub scan-scan-requires : goal.scan-scan-requires
scan-scan-requires t c =
    let p = c.requires in
    (omega (arith, p.1.ahead, p.1.inside), (p.0, leaves-on _ _ _ _ p.1 (sym c.leaving.ensures ∙ c.if-not-leaving.true), p.2))

-- `gone` is the edge that is followed, and `leads` that it leads to a member.
pub scan-bounds : goal.scan-bounds
scan-bounds t c =
    let a = c.args in
    let p = c.requires in
    let gone = leaving_true a.plan.now.sources (kept_of a.kept.now) a.member a.edge (sym c.leaving.ensures ∙ c.if-not-leaving.false) in
    let leads = p.0.small a.edge (omega (arith, p.1.ahead, p.1.inside)) gone.1 in
    omega (arith, c.from-t.ensures)

pub scan-returns-in-Some : goal.scan-returns-in-Some
scan-returns-in-Some t c =
    let a = c.args in
    let p = c.requires in
    let gone = leaving_true a.plan.now.sources (kept_of a.kept.now) a.member a.edge (sym c.leaving.ensures ∙ c.if-not-leaving.false) in
    let seen = rw c.from-t.ensures at c.in-Some.is in
    repeats a.plan.now.sources a.plan.now.targets (kept_of a.kept.now) (seen_of a.seen.now) a.out.now a.member a.depth a.edge (omega arith) p.2 (omega (arith, p.1.ahead, p.1.inside)) gone.0 gone.1 c.in-Some.start (sym (seen-at a.seen.now _ ∙ ap seen_no seen))

pub scan-visit-requires : goal.scan-visit-requires
scan-visit-requires t c =
    let a = c.args in
    let p = c.requires in
    let gone = leaving_true a.plan.now.sources (kept_of a.kept.now) a.member a.edge (sym c.leaving.ensures ∙ c.if-not-leaving.false) in
    let w = c.from-t.ensures in
    let h : a.edge < 256 = omega (arith, p.1.ahead, p.1.inside) in
    let leads : get_or a.plan.now.targets a.edge 0 < 32 = p.0.small a.edge h gone.1 in
    let new : get_or a.seen.now c.from-t.result None ≡ None = search rules in (
      omega arith,
      (
        p.0,
        omega arith,
        seen-at a.seen.now _ ∙ ap seen_no new,
        rw w (p.0.on a.edge h gone.1),
        rw w (steps a.plan.now.sources a.plan.now.targets (kept_of a.kept.now) (seen_of a.seen.now) a.out.now a.member a.depth a.edge (omega arith) p.2 h gone.0 gone.1),
      ),
    )

pub visit-scan-requires : goal.visit-scan-requires
visit-scan-requires t c =
    let a = c.args in
    let p = c.requires in (
      omega (arith, marked_seen a.seen.now a.member a.depth (omega arith) p.1 p.2),
      (p.0, p.3, stands_seen a.seen.now a.member a.depth a.plan.now.sources a.plan.now.targets (kept_of a.kept.now) a.out.now (omega arith) p.1 p.2 p.4),
    )

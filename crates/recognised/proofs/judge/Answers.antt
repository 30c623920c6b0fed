use Rattle.std.proofs.Common.{arith, rules, sym, ◌≡◌, length, replicate}
use Rattle.recognised.proofs.Main.{sound, minimum-same, image-directs, image-readable, image-reached, short-of, short-edge, short-minimum}
use Rattle.recognised.proofs.Answers.{no-image, too_long, all_short}
use Rattle.recognised.proofs.Matrix.{blank-fresh}
use Rattle.recognised.specs.Words.{lost}
use Rattle.recognised.proofs.Words.{fresh-plain, plains-short}
use Rattle.recognised.proofs.Sits.{bytes_of}
use Rattle.recognised.proofs.judge.Goals as goal
use Rattle.recognised.proofs.judge.Goals.{then-not-short_edges-via-then-not-short_edges, then-not-short_edges-via-else-not-short_edges+then-not-short_rows}

pub directs_right-requires : goal.directs_right-requires
directs_right-requires c = (c.requires.0, c.requires.2, c.requires.3, blank-fresh _)

pub returns-then-not-directs_right : goal.returns-then-not-directs_right
returns-then-not-directs_right c = sym (no-image c.args.plan.now (λ I. c.directs_right.ensures.wrong c.if-not-directs_right.true (image-directs c.args.plan.now c.args.n c.args.e c.requires.2 c.requires.3 I)))

pub claim-requires : goal.claim-requires
claim-requires c = let k : c.fill.new.self ≡ replicate (length c.directs_right.new.m.kinds) 2 = search rules in let kl : length c.directs_right.new.m.kinds ≡ 1024 = omega arith in (c.requires.0.header, c.requires.2, rw (k, kl) (blank-fresh _))

pub returns-then-not-claim : goal.returns-then-not-claim
returns-then-not-claim c = sym (no-image c.args.plan.now (λ I. c.claim.ensures.told.wrong c.if-not-claim.true (image-readable c.args.plan.now c.args.n c.args.e c.requires.2 c.requires.3 (bytes_of c.args.plan.now (λ i. (c.type_inv.plan i).fits)) I)))

pub minima_right-requires : goal.minima_right-requires
minima_right-requires c = (c.requires.0, c.requires.2, c.requires.3, λ e. record { edge = (c.briefly-short.ensures e).edge; plain = c.claim.ensures.plain c.if-not-claim.false (c.briefly-short.ensures e).row (let k : c.fill.new.self ≡ replicate (length c.directs_right.new.m.kinds) 2 = search rules in let kl : length c.directs_right.new.m.kinds ≡ 1024 = omega arith in let f : c.fill-2.new.self ≡ replicate (length c.directs_right.new.m.values) lost = search rules in let l : length c.directs_right.new.m.values ≡ 1024 = omega arith in rw (k, kl, f, l) fresh-plain) })

pub returns-then-not-minima_right : goal.returns-then-not-minima_right
returns-then-not-minima_right c = sym (no-image c.args.plan.now (λ I. c.minima_right.ensures.wrong c.if-not-minima_right.true (image-reached c.args.plan.now c.args.n c.args.e c.requires.2 c.requires.3 (bytes_of c.args.plan.now (λ i. (c.type_inv.plan i).fits)) I _ _ (c.claim.ensures.filled c.if-not-claim.false))))

pub returns-then-short : goal.returns-then-short
returns-then-short c = let brisk = c.briefly-short.ensures c.if-short.true in
    let plain = c.claim.ensures.plain c.if-not-claim.false brisk.row (let k : c.fill.new.self ≡ replicate (length c.directs_right.new.m.kinds) 2 = search rules in let kl : length c.directs_right.new.m.kinds ≡ 1024 = omega arith in let f : c.fill-2.new.self ≡ replicate (length c.directs_right.new.m.values) lost = search rules in let l : length c.directs_right.new.m.values ≡ 1024 = omega arith in rw (k, kl, f, l) fresh-plain) in
    sym (all_short c.args.plan.now (sound c.args.plan.now (bytes_of c.args.plan.now (λ i. (c.type_inv.plan i).fits)) c.requires.0 c.args.n c.args.e c.requires.2 c.requires.3 c.requires.1 (c.directs_right.ensures.right c.if-not-directs_right.false) _ (c.minima_right.ensures.right c.if-not-minima_right.false))
    (short-of c.args.plan.now c.args.n c.args.e c.requires.2 c.requires.3 _ (minimum-same c.args.plan.now (bytes_of c.args.plan.now (λ i. (c.type_inv.plan i).fits)) c.requires.0 c.args.n c.args.e c.requires.2 c.requires.3 c.requires.1 (c.directs_right.ensures.right c.if-not-directs_right.false) _ (c.minima_right.ensures.right c.if-not-minima_right.false)) (λ k l. omega (arith, brisk.edge k l)) (plains-short c.args.n _ _ (omega (arith, c.requires.0.header.few)) plain)))

pub returns-then-not-short_edges : goal.returns-then-not-short_edges
returns-then-not-short_edges c = sym (too_long c.args.plan.now (sound c.args.plan.now (bytes_of c.args.plan.now (λ i. (c.type_inv.plan i).fits)) c.requires.0 c.args.n c.args.e c.requires.2 c.requires.3 c.requires.1 (c.directs_right.ensures.right c.if-not-directs_right.false) _ (c.minima_right.ensures.right c.if-not-minima_right.false))
    (λ S. elim c.then-not-short_edges.branch [
      | then-not-short_edges-via-then-not-short_edges w ↦ c.short_edges.ensures.wrong w.if-not-short_edges.true (short-edge c.args.plan.now c.args.n c.args.e c.requires.2 c.requires.3 _ (minimum-same c.args.plan.now (bytes_of c.args.plan.now (λ i. (c.type_inv.plan i).fits)) c.requires.0 c.args.n c.args.e c.requires.2 c.requires.3 c.requires.1 (c.directs_right.ensures.right c.if-not-directs_right.false) _ (c.minima_right.ensures.right c.if-not-minima_right.false)) S)
      | then-not-short_edges-via-else-not-short_edges+then-not-short_rows w ↦ w.short_rows.ensures.wrong w.if-not-short_rows.true (short-minimum c.args.plan.now c.args.n c.args.e c.requires.2 c.requires.3 _ (minimum-same c.args.plan.now (bytes_of c.args.plan.now (λ i. (c.type_inv.plan i).fits)) c.requires.0 c.args.n c.args.e c.requires.2 c.requires.3 c.requires.1 (c.directs_right.ensures.right c.if-not-directs_right.false) _ (c.minima_right.ensures.right c.if-not-minima_right.false)) S)
    ]))

pub returns : goal.returns
returns c = sym (all_short c.args.plan.now (sound c.args.plan.now (bytes_of c.args.plan.now (λ i. (c.type_inv.plan i).fits)) c.requires.0 c.args.n c.args.e c.requires.2 c.requires.3 c.requires.1 (c.directs_right.ensures.right c.if-not-directs_right.false) _ (c.minima_right.ensures.right c.if-not-minima_right.false))
    (short-of c.args.plan.now c.args.n c.args.e c.requires.2 c.requires.3 _ (minimum-same c.args.plan.now (bytes_of c.args.plan.now (λ i. (c.type_inv.plan i).fits)) c.requires.0 c.args.n c.args.e c.requires.2 c.requires.3 c.requires.1 (c.directs_right.ensures.right c.if-not-directs_right.false) _ (c.minima_right.ensures.right c.if-not-minima_right.false)) (c.short_edges.ensures.right c.if-not-short_edges.false) (c.short_rows.ensures.right c.if-not-short_rows.false)))

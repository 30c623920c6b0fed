use Rattle.std.proofs.Common.{◌≡◌, refl, arith, ◌∙◌}
use Rattle.image.specs.Writing.{summed, source_count, target_count, member_in, members_bytes}
use Rattle.image.proofs.Counts.{summed-more, sources-sum, targets-sum, sources_are, targets_are}
use Rattle.image.proofs.Rows.{length-member_in}
use Rattle.image.proofs.Puts.{go-first, go-room, go_on, go-length, go-last}
use Rattle.image.proofs.put_members.Goals as goal

pub loop-i-init : goal.loop-i-init
unfolding members_bytes summed
loop-i-init c = (go-first _ _ _ _ c.requires.1, refl, refl, refl)

pub invariant_of-first : goal.invariant_of-first
invariant_of-first c = let few = c.requires.0.few in
    record { few = (omega (arith, sources-sum c.args.directs.now.kinds c.args.p.now.members c.loop-i.i few (omega arith)), omega (arith, sources-sum c.args.minima.now.kinds c.args.p.now.members c.loop-i.i few (omega arith)), omega (arith, targets-sum c.args.minima.now.kinds c.args.p.now.members c.loop-i.i few (omega arith))) }

pub invariant_of-rows : goal.invariant_of-rows
invariant_of-rows c = let few = c.requires.0.few in
    record {
      few = (
        omega (arith, sources-sum c.args.directs.now.kinds c.args.p.now.members c.loop-i.i few (omega arith), c.count.ensures ∙ sources_are c.args.directs.now.kinds c.args.p.now.members c.loop-i.i),
        omega (arith, sources-sum c.args.minima.now.kinds c.args.p.now.members c.loop-i.i few (omega arith), c.count-in-loop-i.ensures ∙ sources_are c.args.minima.now.kinds c.args.p.now.members c.loop-i.i),
        omega (arith, targets-sum c.args.minima.now.kinds c.args.p.now.members c.loop-i.i few (omega arith), c.count-in-loop-i-2.ensures ∙ targets_are c.args.minima.now.kinds c.args.p.now.members c.loop-i.i),
      );
    }

pub put_member-next-requires : goal.put_member-next-requires
put_member-next-requires c = (
  omega (arith, go-room c.loop-i.invariant.0 (omega arith), length-member_in c.args.p.now.ids c.args.p.now.capacities c.args.directs.now.kinds c.args.minima.now.kinds c.args.p.now.members c.loop-i.i),
  c.requires.0.small c.loop-i.i (omega arith),
)

pub loop-i-preserved : goal.loop-i-preserved
unfolding member_in
loop-i-preserved c =
    let d : c.count.result ≡ source_count c.args.directs.now.kinds c.args.p.now.members c.loop-i.i = c.count.ensures ∙ sources_are c.args.directs.now.kinds c.args.p.now.members c.loop-i.i in
    let t : c.count-in-loop-i.result ≡ source_count c.args.minima.now.kinds c.args.p.now.members c.loop-i.i = c.count-in-loop-i.ensures ∙ sources_are c.args.minima.now.kinds c.args.p.now.members c.loop-i.i in
    let w : c.count-in-loop-i-2.result ≡ target_count c.args.minima.now.kinds c.args.p.now.members c.loop-i.i = c.count-in-loop-i-2.ensures ∙ targets_are c.args.minima.now.kinds c.args.p.now.members c.loop-i.i in (
      go_on c.loop-i.invariant.0 (omega arith)
          (rw (← c.loop-i.invariant.1, ← d, ← c.loop-i.invariant.2, ← t, ← c.loop-i.invariant.3, ← w) c.put_member-next.ensures),
      cc (summed-more (source_count c.args.directs.now.kinds c.args.p.now.members) c.loop-i.i),
      cc (summed-more (source_count c.args.minima.now.kinds c.args.p.now.members) c.loop-i.i),
      cc (summed-more (target_count c.args.minima.now.kinds c.args.p.now.members) c.loop-i.i),
    )

pub shape_of-out : goal.shape_of-out
shape_of-out c = go-length c.loop-i.invariant.0 (omega arith)

pub returns : goal.returns
unfolding members_bytes
returns c = go-last c.loop-i.invariant.0 (omega arith)

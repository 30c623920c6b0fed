use Rattle.std.proofs.Common.{◌≡◌}
use Rattle.image.specs.Writing.{summed, source_count, target_count, member_in}
use Rattle.image.proofs.Puts.{Going}
use Rattle.image.proofs.put_members.Given as goal

abbrev pub invariant-loop-i : goal.invariant-loop-i
invariant-loop-i l = Going l.at (member_in l.p.ids l.p.capacities l.directs.kinds l.minima.kinds l.n) l.n l.i l.initial.out l.out l.next
    × (l.first.0 ≡ summed (source_count l.directs.kinds l.n) l.i) × (l.first.1.0 ≡ summed (source_count l.minima.kinds l.n) l.i) × (l.first.1.1.0 ≡ summed (target_count l.minima.kinds l.n) l.i)

use Rattle.std.proofs.Common.{sym, arith, rules, get_or, Fits, w64}
use Rattle.delays.proofs.Cells.{cell_cut, cell-far, cell-none, reach-at, reach_far, reach-none}
use Rattle.delays.proofs.Matrix.get.Goals as goal

pub returns-in-0 : goal.returns-in-0
returns-in-0 c =
    let f : Fits w64 (get_or c.args.self.now.values c.args.p 0) = search rules in
    record { view = reach-at _ _ c.in-0.is (omega arith); number = sym (cell_cut _ _ c.in-0.is) }

pub returns-in-1 : goal.returns-in-1
returns-in-1 c = record { view = reach_far _ _ c.in-1.is; number = sym (cell-far _ _ c.in-1.is) }

pub returns-in_default : goal.returns-in_default
returns-in_default c = record { view = reach-none _ _ (omega arith); number = sym (cell-none _ _ (omega arith)) }

-- A fault has a number.
-- Assumes nothing.
use Rattle.std.proofs.Common.{◌≡◌, arith}
use Rattle.recognised.specs.declared.Fault.{Fault}
use Rattle.recognised.specs.declared.Fault.TheVariants.{NoImage, TooLong}
use Rattle.recognised.specs.Faults.{fault_no}

pub fault_some : (f : Fault) → fault_no f ≡ 0 → ⊥
fault_some NoImage e = omega arith
fault_some TooLong e = omega arith

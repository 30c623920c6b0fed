-- Refusals 11 and 12 as the program answers them.
-- Assumes nothing.
use Rattle.std.specs.Prelude.{ℕ, Result, Ok, Err}
use Rattle.recognised.specs.declared.Fault.{Fault}
use Rattle.recognised.specs.declared.Fault.TheVariants.{NoImage, TooLong}

abbrev pub fault_no : Fault → ℕ
fault_no NoImage = 11
fault_no TooLong = 12

-- 0 where nothing is refused
abbrev pub verdict : {A : Type 0} → Result A Fault → ℕ
verdict (Ok x) = 0
verdict (Err f) = fault_no f

-- Tests joined, and refusals one after the other.
-- Assumes nothing.
use Rattle.std.proofs.Common.{◌≡◌, ◌<◌, ℕ, Bool, true, arith}
use Rattle.states.specs.declared.Cause.{Cause}
use Rattle.states.specs.Causes.{cause_no}
use Rattle.states.specs.Steps.{when, or_else}

-- a refusal comes first, or the next is looked at
pub or_yes : (a : Bool) (r z : ℕ) → 0 < r → a ≡ true → r ≡ or_else (when a r) z
or_yes a r z l e = grind arith

-- no refusal has the number 0
pub numbered : (e : Cause) → 0 < cause_no e
numbered e = grind arith

pub or-first : (n a z : ℕ) → 0 < n → n ≡ a → n ≡ or_else a z
or-first n a z l e = grind arith

-- what refuses comes first
pub ruled : (e : Cause) (a z : ℕ) → cause_no e ≡ a → cause_no e ≡ or_else a z
ruled e a z h = or-first (cause_no e) a z (numbered e) h

pub passes-on : (a z y : ℕ) → 0 ≡ a → y ≡ z → y ≡ or_else a z
passes-on a z y e h = grind arith

-- Refusals as numbers, with what each number gives.
-- Assumes nothing.
use Rattle.std.specs.Prelude.{ℕ, Result, Ok, Err}
use Rattle.plans.specs.declared.Refusal.{Refusal}
use Rattle.plans.specs.declared.Refusal.TheVariants.{Malformed, TooManyMembers, TooManyEdges, Capacity, MemberTwice, EdgeTwice, Undeclared, ZeroCycle, TooFar, TooShort}

-- Why a plan is refused: the number, and what that number gives. A plan that is taken has 0 everywhere.
pub record Reason : Type 0 where
  pub number : ℕ
  pub mask : ℕ
  pub first : ℕ
  pub second : ℕ

abbrev pub no_reason : Reason
no_reason = record { number = 0; mask = 0; first = 0; second = 0 }

abbrev pub reason_of : Refusal → Reason
reason_of Malformed = record { number = 1; mask = 0; first = 0; second = 0 }
reason_of TooManyMembers = record { number = 2; mask = 0; first = 0; second = 0 }
reason_of TooManyEdges = record { number = 3; mask = 0; first = 0; second = 0 }
reason_of Capacity = record { number = 4; mask = 0; first = 0; second = 0 }
reason_of (MemberTwice id) = record { number = 5; mask = 0; first = id; second = 0 }
reason_of (EdgeTwice id) = record { number = 6; mask = 0; first = id; second = 0 }
reason_of (Undeclared edge member) = record { number = 7; mask = 0; first = edge; second = member }
reason_of (ZeroCycle mask) = record { number = 8; mask = mask; first = 0; second = 0 }
reason_of (TooFar source target) = record { number = 9; mask = 0; first = source; second = target }
reason_of TooShort = record { number = 10; mask = 0; first = 0; second = 0 }

-- an outcome's reason; none where it is not refused
abbrev pub reason : {A : Type 0} → Result A Refusal → Reason
reason (Ok x) = no_reason
reason (Err r) = reason_of r

-- Why a request ends a session, as the paper numbers it; 0 where it goes on.
-- Assumes nothing.
use Rattle.std.specs.Prelude.{ℕ, Ok, Err}
use Rattle.std.specs.Prelude.{Result}
use Rattle.states.specs.declared.Cause.{Cause}
use Rattle.states.specs.declared.Cause.TheVariants.{Aborted, UnknownMember, Identity, Lifecycle, Publication, Completion, Route, Source, Payload, Target, Full, Confirmation, Unconfirmed}

abbrev pub cause_no : Cause → ℕ
cause_no Aborted = 20
cause_no UnknownMember = 21
cause_no Identity = 22
cause_no Lifecycle = 23
cause_no Publication = 24
cause_no Completion = 25
cause_no Route = 26
cause_no Source = 27
cause_no Payload = 28
cause_no Target = 29
cause_no Full = 30
cause_no Confirmation = 31
cause_no Unconfirmed = 32

-- the number of a refusal, 0 where there is none
abbrev pub ruling : {A : Type 0} → Result A Cause → ℕ
ruling (Ok a) = 0
ruling (Err c) = cause_no c

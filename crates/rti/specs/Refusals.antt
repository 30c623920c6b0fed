-- The numbers of the refusals of an opening or a call.
-- Assumes nothing.
use Rattle.std.specs.Prelude.{ℕ, Result, Ok, Err}
use Rattle.requests.specs.declared.Fault.{Fault}
use Rattle.recognised.specs.declared.Fault.{Fault as Seen}
use Rattle.rti.specs.declared.Refusal.{Refusal}
use Rattle.rti.specs.declared.Refusal.TheVariants.{NoImage, TooLong, Slab, State, Room, Malformed, Far}

abbrev pub refusal_no : Refusal → ℕ
refusal_no NoImage = 11
refusal_no TooLong = 12
refusal_no Slab = 13
refusal_no State = 14
refusal_no Room = 15
refusal_no Malformed = 16
refusal_no Far = 17

-- the number of a refusal, 0 if there is none
abbrev pub refused : {A : Type 0} → Result A Refusal → ℕ
refused (Ok x) = 0
refused (Err r) = refusal_no r

-- bytes that are no compiled plan, or one with a delay above L
abbrev pub unrecognised : Seen → Refusal
unrecognised Seen.NoImage = NoImage
unrecognised Seen.TooLong = TooLong

-- a request that is misheard
abbrev pub misheard : Fault → Refusal
misheard Fault.Malformed = Malformed
misheard Fault.Far = Far

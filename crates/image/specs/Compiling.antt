-- What compiling answers, and what it leaves in the output.
-- Assumes nothing.
use Rattle.std.specs.Prelude.{◌≡◌, List, ◌++◌, ℕ, ltb, eqb, drop, Result, Ok, Err}
use Rattle.basis.specs.Choice.{pick}
use Rattle.plans.specs.declared.Plan.{Plan}
use Rattle.plans.specs.declared.Refusal.{Refusal}
use Rattle.plans.specs.Numbers.{Reason, no_reason, reason_of}
use Rattle.plans.specs.Reading.{reading_of}
use Rattle.delays.specs.Refusals.{accepted, refusal_of}
use Rattle.image.specs.Image.{image_of, total_of}

-- the outcome of compiling: why not, or the bytes written
pub record Compiled : Type 0 where
  pub refusal : Reason
  pub total : ℕ

-- a refusal and no bytes, or none and the total
abbrev pub compiled : Result ℕ Refusal → Compiled
compiled (Ok total) = record { refusal = no_reason; total = total }
compiled (Err r) = record { refusal = reason_of r; total = 0 }

-- "10: output shorter than the compiled total"
abbrev pub too_short : Reason
too_short = record { number = 10; mask = 0; first = 0; second = 0 }

abbrev pub refused : Reason → Compiled
refused r = record { refusal = r; total = 0 }

abbrev pub written : ℕ → Compiled
written total = record { refusal = accepted; total = total }

-- 10, or the total
unfoldable pub fitted : Plan → ℕ → Compiled
fitted p room = pick (ltb room (total_of p)) (refused too_short) (written (total_of p))

-- 8 and 9, then 10
unfoldable pub outcome_of : Plan → ℕ → Compiled
outcome_of p room = pick (eqb (refusal_of p).number 0) (fitted p room) (refused (refusal_of p))

-- 1 to 7 of plan bytes, then 8 to 10
unfoldable pub compiled_of : List ℕ → ℕ → Compiled
compiled_of b room = pick (eqb (reading_of b).refusal.number 0) (outcome_of (reading_of b).plan room) (refused (reading_of b).refusal)

-- "Compiling writes its total and no more": the image and the rest as it was, or after a refusal every byte as it was
unfoldable pub left_of : Compiled → Plan → List ℕ → List ℕ
left_of c p out = pick (eqb c.refusal.number 0) (image_of p ++ drop (total_of p) out) out

-- the answer and every byte of the output
pub record Outcome (answer : Compiled) (p : Plan) (before after : List ℕ) (c : Compiled) : Type 0 where
  pub says : c ≡ answer
  pub leaves : after ≡ left_of answer p before

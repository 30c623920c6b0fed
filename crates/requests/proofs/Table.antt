-- The phase table has the paper's rule: by the kinds and the phases, one entry after the other.
-- Assumes nothing.
use mathlib.Core.Path.{◌≡◌, refl}
use mathlib.Core.List.{List, [], ◌∷◌}
use Prim.Native.Nat.{ℕ, ◌+◌, ◌*◌, ◌<◌}
use native.Mathlib.Omega.{arith}
use lib.ListN.{get_or}
use Rattle.states.specs.declared.Request.{Request}
use Rattle.states.specs.declared.Request.TheVariants.{Hello, Publish, Complete, Payload, ConfirmIdle, Stop, Abort}
use Rattle.states.specs.Steps.{lifecycle, hello_in, work_in, stop_in}
use Rattle.requests.specs.declared.Phase.{Phase}
use Rattle.requests.specs.declared.Phase.TheVariants.{Absent, Waiting, Running, Resting, Halted}
use Rattle.requests.specs.Phases.{kind_no, phase_no, phase_said}

abbrev pub table : List ℕ
table =
    0 ∷ 22 ∷ 22 ∷ 22 ∷ 22 ∷
    23 ∷ 23 ∷ 0 ∷ 0 ∷ 23 ∷
    23 ∷ 23 ∷ 0 ∷ 0 ∷ 23 ∷
    23 ∷ 23 ∷ 0 ∷ 0 ∷ 23 ∷
    23 ∷ 23 ∷ 0 ∷ 0 ∷ 23 ∷
    23 ∷ 23 ∷ 32 ∷ 0 ∷ 23 ∷
    20 ∷ 20 ∷ 20 ∷ 20 ∷ 20 ∷ []

-- a row's five entries are those of f
row : (k : ℕ) (f : Phase → ℕ) → get_or table (k * 5 + 0) 0 ≡ f Absent → get_or table (k * 5 + 1) 0 ≡ f Waiting → get_or table (k * 5 + 2) 0 ≡ f Running
    → get_or table (k * 5 + 3) 0 ≡ f Resting → get_or table (k * 5 + 4) 0 ≡ f Halted → (p : Phase) → get_or table (k * 5 + phase_no p) 0 ≡ f p
row k f a b c d e Absent = a
row k f a b c d e Waiting = b
row k f a b c d e Running = c
row k f a b c d e Resting = d
row k f a b c d e Halted = e

pub rule : (q : Request) (p : Phase) → get_or table (kind_no q * 5 + phase_no p) 0 ≡ lifecycle q (phase_said p)
unfolding lifecycle
rule (Hello i) p = row 0 (λ x. lifecycle (Hello i) (phase_said x)) refl refl refl refl refl p
rule (Publish r e) p = row 1 (λ x. lifecycle (Publish r e) (phase_said x)) refl refl refl refl refl p
rule (Complete t) p = row 2 (λ x. lifecycle (Complete t) (phase_said x)) refl refl refl refl refl p
rule (Payload k t h) p = row 3 (λ x. lifecycle (Payload k t h) (phase_said x)) refl refl refl refl refl p
rule (ConfirmIdle r) p = row 4 (λ x. lifecycle (ConfirmIdle r) (phase_said x)) refl refl refl refl refl p
rule Stop p = row 5 (λ x. lifecycle Stop (phase_said x)) refl refl refl refl refl p
rule (Abort c) p = row 6 (λ x. lifecycle (Abort c) (phase_said x)) refl refl refl refl refl p

-- an entry that is none of four others is 32
hello-last : (p : Phase) → (hello_in (phase_said p) ≡ 0 → ⊥) → (hello_in (phase_said p) ≡ 22 → ⊥) → 32 ≡ hello_in (phase_said p)
hello-last Absent a b = absurd (a refl)
hello-last Waiting a b = absurd (b refl)
hello-last Running a b = absurd (b refl)
hello-last Resting a b = absurd (b refl)
hello-last Halted a b = absurd (b refl)

work-last : (p : Phase) → (work_in (phase_said p) ≡ 0 → ⊥) → (work_in (phase_said p) ≡ 23 → ⊥) → 32 ≡ work_in (phase_said p)
work-last Absent a b = absurd (b refl)
work-last Waiting a b = absurd (b refl)
work-last Running a b = absurd (a refl)
work-last Resting a b = absurd (a refl)
work-last Halted a b = absurd (b refl)

stop-last : (p : Phase) → (stop_in (phase_said p) ≡ 0 → ⊥) → (stop_in (phase_said p) ≡ 23 → ⊥) → 32 ≡ stop_in (phase_said p)
stop-last Absent a b = absurd (b refl)
stop-last Waiting a b = absurd (b refl)
stop-last Running a b = refl
stop-last Resting a b = absurd (a refl)
stop-last Halted a b = absurd (b refl)

pub last : (q : Request) (p : Phase) → (lifecycle q (phase_said p) ≡ 0 → ⊥) → (lifecycle q (phase_said p) ≡ 20 → ⊥) → (lifecycle q (phase_said p) ≡ 22 → ⊥)
    → (lifecycle q (phase_said p) ≡ 23 → ⊥) → 32 ≡ lifecycle q (phase_said p)
unfolding lifecycle
last (Hello i) p a b c d = hello-last p a c
last (Publish r e) p a b c d = work-last p a d
last (Complete t) p a b c d = work-last p a d
last (Payload k t h) p a b c d = work-last p a d
last (ConfirmIdle r) p a b c d = work-last p a d
last Stop p a b c d = stop-last p a d
last (Abort n) p a b c d = absurd (b refl)

pub kind-below : (q : Request) → kind_no q < 7
kind-below (Hello i) = omega arith
kind-below (Publish r e) = omega arith
kind-below (Complete t) = omega arith
kind-below (Payload k t h) = omega arith
kind-below (ConfirmIdle r) = omega arith
kind-below Stop = omega arith
kind-below (Abort c) = omega arith

pub phase-below : (p : Phase) → phase_no p < 5
phase-below Absent = omega arith
phase-below Waiting = omega arith
phase-below Running = omega arith
phase-below Resting = omega arith
phase-below Halted = omega arith

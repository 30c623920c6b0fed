-- Kinds and phases as rows and columns of the phase table.
-- Assumes nothing.
use Rattle.std.specs.Prelude.{ℕ}
use Rattle.states.specs.declared.Request.{Request}
use Rattle.states.specs.declared.Request.TheVariants.{Hello, Publish, Complete, Payload, ConfirmIdle, Stop, Abort}
use Rattle.states.specs.Steps.{Phase as Stage, absent, waiting, running, resting, halted}
use Rattle.requests.specs.declared.Phase.{Phase}
use Rattle.requests.specs.declared.Phase.TheVariants.{Absent, Waiting, Running, Resting, Halted}

-- a kind's row: Hello, Publish, Complete, Payload, ConfirmIdle, Stop, Abort
abbrev pub kind_no : Request → ℕ
kind_no (Hello d) = 0
kind_no (Publish r e) = 1
kind_no (Complete t) = 2
kind_no (Payload k t h) = 3
kind_no (ConfirmIdle r) = 4
kind_no Stop = 5
kind_no (Abort c) = 6

-- a phase's column: not joined, waiting, running, idle, stopped
abbrev pub phase_no : Phase → ℕ
phase_no Absent = 0
phase_no Waiting = 1
phase_no Running = 2
phase_no Resting = 3
phase_no Halted = 4

-- the phase of a session that the code's phase says
abbrev pub phase_said : Phase → Stage
phase_said Absent = absent
phase_said Waiting = waiting
phase_said Running = running
phase_said Resting = resting
phase_said Halted = halted

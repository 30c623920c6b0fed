-- What the user must be certain of, in one place: a plan that is taken, and every session on it.
-- Assumes nothing.
use Rattle.std.specs.Prelude.{ℕ, ◌+◌, ◌<◌, ◌≤◌, length}
use Rattle.plans.specs.declared.Plan.{Plan}
use Rattle.plans.specs.Nets.{Net}
use Rattle.states.specs.declared.Request.{Request}
use Rattle.states.specs.Sessions.{Session, view}
use Rattle.states.specs.Steps.{step, abandon}
use Rattle.states.specs.Formed.{Sound}
use Rattle.demands.specs.Histories.{Reached, Answered, Moves}
use Rattle.demands.specs.Refusals.{Abandoned}
use Rattle.demands.specs.Answers.{Answer}
use Rattle.demands.specs.Determined.{Determined}
use Rattle.demands.specs.Analysis.{Analysed}

-- of a plan p, and of the net n that its sessions run on; a session stands at s after any history
pub record Demands (p : Plan) (n : Net) : Type 0 where
  -- ---- Demand 1: every request gets an answer, and one only; a refusal carries the number that 01's order gives it, ends the
  -- session, tells every member the cause and alters no member's record
  pub answers : (s : Session) → Reached n s → (i : ℕ) (q : Request) → Answer n s i q (step n s i q)
  pub one_answer : (s : Session) (i : ℕ) (q : Request) → Determined (Answer n s i q)
  pub aborts : (s : Session) (code : ℕ) → Abandoned n s code (abandon n s code)
  pub one-abort : (s : Session) (code : ℕ) → Determined (Abandoned n s code)
  -- no call of a session is refused with 14, and the deliveries number at most 2n+1
  pub formed : (s : Session) → Reached n s → Sound n s
  pub few : (s : Session) → Reached n s → (i : ℕ) (q : Request) → length (step n s i q).sent ≤ 1 + (n.count + n.count)
  -- ---- Demand 2: minimum delays and zero cycles are 01's; so are grants, downstream bounds and idle stops (`Answer`, `follow`)
  pub analysis : Analysed p
  -- ---- Demand 3: whoever's horizon reaches its published event holds a grant up to that horizon; and the session moves
  pub grants : (s : Session) → Reached n s → (j : ℕ) → j < n.count → Answered n (view s) j
  pub moves : (s : Session) → Reached n s → Moves n (view s)

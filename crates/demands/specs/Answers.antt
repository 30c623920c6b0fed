-- What a request is answered with, as 01 says it: the one answer to each.
-- Assumes nothing.
use Rattle.std.specs.Prelude.{ℕ, ◌<◌, ◌≡◌, true, false}
use Rattle.plans.specs.Nets.{Net}
use Rattle.states.specs.declared.Request.{Request}
use Rattle.states.specs.Sessions.{Session}
use Rattle.states.specs.Steps.{Out, effect}
use Rattle.demands.specs.Refusals.{is_hello, First, grounds, Refused, Over}
use Rattle.demands.specs.Rules.{Followed, Welcomed}

-- o answers request q of member i in session s
pub record Answer (p : Net) (s : Session) (i : ℕ) (q : Request) (o : Out) : Type 0 where
  -- in an ended session
  pub over : 0 < s.cause → Over s i o
  -- otherwise the first number of 01's list that applies decides; 0 is none
  pub refusal : s.cause ≡ 0 → (n : ℕ) → 0 < n → First (grounds p s i q) n → Refused p s q n o
  pub welcome : s.cause ≡ 0 → First (grounds p s i q) 0 → is_hello q ≡ true → Welcomed p s i o
  pub follow : s.cause ≡ 0 → First (grounds p s i q) 0 → is_hello q ≡ false → Followed p i (effect p s i q) o

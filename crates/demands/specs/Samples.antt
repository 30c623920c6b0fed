-- Whole case on P: members 100, 200 with capacity 1, edge 7 from 100 to 200, delay 10.
-- Assumes nothing.
use Rattle.std.specs.Prelude.{ℕ, ◌-◌, None, Some, List, [], ◌∷◌, ◌++◌, length, replicate}
use Rattle.tags.specs.declared.Tag.TheVariants.{Finite, Forever}
use Rattle.tags.specs.Tags.{top}
use Rattle.plans.specs.declared.Plan.{Plan}
use Rattle.plans.specs.Nets.{Net}
use Rattle.states.specs.declared.Request.{Request}
use Rattle.states.specs.declared.Request.TheVariants.{Hello, Publish, Complete, Payload, ConfirmIdle, Stop}
use Rattle.states.specs.declared.Delivery.{Delivery}
use Rattle.states.specs.declared.Delivery.TheVariants.{Started, Grant, Carried, Idle, Stopped, Suppress}
use Rattle.states.specs.Sessions.{Session}
use Rattle.states.specs.Steps.{step}
use Rattle.demands.specs.Nets.{net_of}

-- a call: who asks, and what
pub record Call : Type 0 where
  pub who : ℕ
  pub what : Request

unfoldable pub by : ℕ → Request → Call
by i q = record { who = i; what = q }

-- the deliveries of each call in turn
unfoldable pub answers : Net → Session → List Call → List (List Delivery)
answers p s [] = []
answers p s (c ∷ cs) = let o = step p s c.who c.what in o.sent ∷ answers p o.session cs

-- the session after all of them
unfoldable pub after-all : Net → Session → List Call → Session
after-all p s [] = s
after-all p s (c ∷ cs) = after-all p (step p s c.who c.what).session cs

-- k places: those given, then 0
unfoldable pub places : ℕ → List ℕ → List ℕ
places k l = l ++ replicate (k - length l) 0

unfoldable pub plan_p : Plan
plan_p =
    record {
      members = 2;
      edges = 1;
      ids = places 32 (100 ∷ 200 ∷ []);
      capacities = places 32 (1 ∷ 1 ∷ []);
      routes = places 256 (7 ∷ []);
      sources = places 256 (0 ∷ []);
      targets = places 256 (1 ∷ []);
      delays = places 256 (10 ∷ []);
    }

unfoldable pub P : Net
P = net_of plan_p

-- Whole case on P, identity 5, as member.request.
unfoldable pub case : List Call
case =
    by 0 (Hello 5)
    ∷ by 1 (Hello 5)
    ∷ by 0 (Publish 1 (Some (Finite 0 0)))
    ∷ by 1 (Publish 1 (Some (Finite 10 0)))
    ∷ by 0 (Payload 0 (Finite 10 0) 77)
    ∷ by 0 (Complete (Finite 0 0))
    ∷ by 0 (Publish 2 None)
    ∷ by 1 (Complete (Finite 10 0))
    ∷ by 1 (Publish 2 None)
    ∷ by 0 (ConfirmIdle 2)
    ∷ by 1 (ConfirmIdle 2)
    ∷ by 0 Stop
    ∷ by 1 Stop ∷ []

-- what each call of it is answered with
unfoldable pub deliveries : List (List Delivery)
deliveries =
    []
    ∷ (Started 0 ∷ Started 1 ∷ [])
    ∷ (Grant 0 1 Forever ∷ [])
    ∷ (Suppress 0 (Finite 0 top) ∷ Suppress 1 Forever ∷ [])
    ∷ (Carried 1 0 (Finite 10 0) 77 ∷ [])
    ∷ []
    ∷ (Grant 1 1 Forever ∷ [])
    ∷ []
    ∷ []
    ∷ []
    ∷ (Idle 0 2 ∷ Idle 1 2 ∷ [])
    ∷ (Stopped 0 ∷ [])
    ∷ (Stopped 1 ∷ []) ∷ []

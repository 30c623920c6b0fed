-- The marked cases, one joint statement.
-- Assumes nothing.
use Rattle.std.specs.Prelude.{ℕ, ◌≡◌, true, List, [], ◌∷◌, ◌++◌, drop, replicate}
use Rattle.tags.specs.declared.Tag.TheVariants.{Never, Finite}
use Rattle.tags.specs.Tags.{top, less_of}
use Rattle.plans.specs.declared.Plan.{Plan}
use Rattle.basis.specs.Numbers.{bytes}
use Rattle.delays.specs.Graph.{direct_of, minimum_of}
use Rattle.delays.specs.Refusals.{accepted, zero_cycle, too_far_from, refusal_of}
use Rattle.image.specs.Image.{words, image_of}
use Rattle.states.specs.Sessions.{fresh}
use Rattle.states.specs.Steps.{finished}
use Rattle.rti.specs.Entries.{opened, finished_state}
use Rattle.demands.specs.Talk.{Host, left_by, talk, after-talk, requests, replies}
use Rattle.demands.specs.Samples.{places, plan_p, P, case, answers, after-all, deliveries}

-- n members with ids 10, 20, 30, and m edges
unfoldable pub plan : ℕ → ℕ → List ℕ → List ℕ → List ℕ → Plan
plan n m source target delay =
    record {
      members = n;
      edges = m;
      ids = places 32 (10 ∷ 20 ∷ 30 ∷ []);
      capacities = places 32 [];
      routes = places 256 (1 ∷ 2 ∷ 3 ∷ []);
      sources = places 256 source;
      targets = places 256 target;
      delays = places 256 delay;
    }

-- two edges of 2^63 in a row
unfoldable pub in_a_row : Plan
in_a_row = plan 3 2 (0 ∷ 1 ∷ []) (1 ∷ 2 ∷ []) (9223372036854775808 ∷ 9223372036854775808 ∷ [])

-- a direct edge of 2^64-1 beside them
unfoldable pub beside : Plan
beside = plan 3 3 (0 ∷ 1 ∷ 0 ∷ []) (1 ∷ 2 ∷ 2 ∷ []) (9223372036854775808 ∷ 9223372036854775808 ∷ 18446744073709551615 ∷ [])

-- a direct 9, and a path 2+3
unfoldable pub lowered : Plan
lowered = plan 3 3 (0 ∷ 0 ∷ 1 ∷ []) (2 ∷ 1 ∷ 2 ∷ []) (9 ∷ 2 ∷ 3 ∷ [])

-- a zero self-loop
unfoldable pub self_loop : Plan
self_loop = plan 1 1 (0 ∷ []) (0 ∷ []) (0 ∷ [])

-- "Header 1,2,1,1,1,1,48,128,152,168,184,188. Members (100,1,0,0,0,0,0,1,0) and (200,1,0,1,0,1,1,0,0). Edge (7,0,1,10).
-- Direct (0,0,10). Transitive (0,0,10). Downstream 1."
unfoldable pub image_p : List ℕ
image_p =
    words (1 ∷ 2 ∷ 1 ∷ 1 ∷ 1 ∷ 1 ∷ 48 ∷ 128 ∷ 152 ∷ 168 ∷ 184 ∷ 188 ∷ [])
    ++ (bytes 8 100 ++ (words (1 ∷ 0 ∷ 0 ∷ 0 ∷ 0 ∷ 0 ∷ 1 ∷ 0 ∷ [])
    ++ (bytes 8 200 ++ (words (1 ∷ 0 ∷ 1 ∷ 0 ∷ 1 ∷ 1 ∷ 0 ∷ 0 ∷ [])
    ++ (bytes 8 7 ++ (words (0 ∷ 1 ∷ []) ++ (bytes 8 10
    ++ (words (0 ∷ 0 ∷ []) ++ (bytes 8 10
    ++ (words (0 ∷ 0 ∷ []) ++ (bytes 8 10
    ++ words (1 ∷ []))))))))))))

-- a host that has opened P with identity 5, on a slab of 130 words
unfoldable pub host_p : Host
host_p = left_by (opened image_p 5 (replicate 130 9))

pub record Marked : Type 0 where
  -- (10,3) less 0, 10, 11: (10,3), (0,M), NEVER.
  pub less_0 : less_of (Finite 10 3) 0 ≡ Finite 10 3
  pub less_10 : less_of (Finite 10 3) 10 ≡ Finite 0 top
  pub less_11 : less_of (Finite 10 3) 11 ≡ Never
  -- two edges of 2^63 in a row refuse with 9
  pub too_far : refusal_of in_a_row ≡ too_far_from 10 30
  -- with a direct edge of 2^64-1 beside them, compiling accepts, with a minimum delay above L
  pub taken : refusal_of beside ≡ accepted
  pub above : minimum_of beside 0 2 ≡ 18446744073709551615
  -- Lowering a direct 9 for a path 2+3: direct stays 9, transitive is 5.
  pub direct : direct_of lowered 0 2 ≡ 9
  pub transitive : minimum_of lowered 0 2 ≡ 5
  -- a zero self-loop is refused with 8, its component the one member
  pub self-loop : refusal_of self_loop ≡ zero_cycle 1
  -- P's bytes
  pub bytes : image_of plan_p ≡ image_p
  -- P's session by steps, every delivery; then finished
  pub session : answers P (fresh 2 5) case ≡ deliveries
  pub ended : finished P (after-all P (fresh 2 5) case) ≡ true
  -- P's session by words, on P's bytes: what each call is told, none refused; then finished, and the slab's tail as it was
  pub words : talk image_p (replicate 35 8) host_p requests ≡ replies
  pub finished : finished_state (after-talk image_p (replicate 35 8) host_p requests).state ≡ true
  pub tail : drop 128 (after-talk image_p (replicate 35 8) host_p requests).slab ≡ 9 ∷ 9 ∷ []

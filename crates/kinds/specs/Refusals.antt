-- What a request of a known member is refused with by its kind, read off records, words and rows.
-- Assumes nothing.
use Rattle.std.specs.Prelude.{ℕ, Bool, List, leb, eqb}
use Rattle.basis.specs.Choice.{pick, not, both}
use Rattle.tags.specs.declared.Tag.{Tag}
use Rattle.transit.specs.Tags.{holds}
use Rattle.transit.specs.Words.{stretch, tags_of}
use Rattle.states.specs.declared.Request.{Request}
use Rattle.states.specs.declared.Request.TheVariants.{Hello, Publish, Complete, Payload, ConfirmIdle, Stop, Abort}
use Rattle.states.specs.declared.MemberState.{MemberState}
use Rattle.states.specs.declared.State.{State}
use Rattle.states.specs.Records.{record_at}
use Rattle.states.specs.Steps.{when, bad_publication, bad_completion, bad_payload, bad_target, confirms}
use Rattle.rows.specs.Rows.{edges, capacity, edge_source, edge_target, edge_delay}
use Rattle.records.specs.Records.{plainly}

-- 30, only for a tag not already held: the stretch holds as many as the capacity
abbrev pub full_at : ℕ → Tag → ℕ → List ℕ → Bool
full_at room t count ws = both (not (holds t (tags_of count ws))) (leb room count)

-- of the destination: 29, then 30
abbrev pub target_refusal : MemberState → List ℕ → ℕ → Tag → ℕ
target_refusal m ws room t = pick (bad_target (plainly m) t) 29 (pick (full_at room t m.held ws) 30 0)

-- of route k: another source 27, then 28, then the destination
abbrev pub route_refusal : List ℕ → State → List ℕ → ℕ → ℕ → Tag → ℕ
route_refusal b s w i k t =
    pick (not (eqb (edge_source b k) i)) 27
    (pick (bad_payload (plainly (record_at s i)) (edge_delay b k) t) 28
    (target_refusal (record_at s (edge_target b k)) (stretch (edge_target b k) w) (capacity b (edge_target b k)) t))

-- an unknown route 26, then the route
abbrev pub payload_in : List ℕ → State → List ℕ → ℕ → ℕ → Tag → ℕ
payload_in b s w i k t = pick (leb (edges b) k) 26 (route_refusal b s w i k t)

abbrev pub kind_in : List ℕ → State → List ℕ → ℕ → Request → ℕ
kind_in b s w i (Hello d) = when (not (eqb d s.identity)) 22
kind_in b s w i (Publish r e) = when (bad_publication (plainly (record_at s i)) r e) 24
kind_in b s w i (Complete t) = when (bad_completion (plainly (record_at s i)) t) 25
kind_in b s w i (Payload k t h) = payload_in b s w i k t
kind_in b s w i (ConfirmIdle r) = when (not (confirms (record_at s i).publication r)) 31
kind_in b s w i Stop = 0
kind_in b s w i (Abort c) = 0

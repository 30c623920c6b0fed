-- What records, words and rows say is what the session says that they stand for.
-- Assumes nothing.
use Prim.Native.Nat.{ℕ, zero, suc, ◌+◌, ◌*◌, ◌-◌, ◌<◌, ◌≤◌}
use native.Mathlib.Omega.{arith}
use native.Mathlib.Nat.{not-suc-le-zero, le_of_suc-le-suc}
use mathlib.Core.Path.{◌≡◌, refl, sym, ap, ◌∙◌}
use mathlib.Core.Bool.{Bool, true, false}
use mathlib.Core.List.{List}
use lib.Dec.{leb, eqb}
use lib.ListN.{length, get_or, drop}
use borrow.Author.Tests.{leb-true, leb-false}
use Rattle.basis.specs.Choice.{pick, not, both}
use Rattle.tags.specs.declared.Tag.{Tag}
use Rattle.plans.specs.Nets.{Route, no_route}
use Rattle.transit.specs.Tags.{holds, full, ascending}
use Rattle.transit.specs.Words.{stretch, tags_of, blank, formed_stretch}
use Rattle.transit.proofs.Lists.{both_true}
use Rattle.states.specs.declared.Request.{Request}
use Rattle.states.specs.declared.Request.TheVariants.{Hello, Publish, Complete, Payload, ConfirmIdle, Stop, Abort}
use Rattle.states.specs.declared.State.{State}
use Rattle.states.proofs.Every.{every-same}
use Rattle.states.specs.Sessions.{Member, or_never, view}
use Rattle.states.specs.Rules.{is_set}
use Rattle.states.specs.Steps.{Phase as Stage, absent, waiting, running, resting, halted, every, when, or_else, phase_of, route_at, bad_publication, bad_completion, bad_payload, bad_target, confirms, payload_refusal, kind_refusal, lifecycle}
use Rattle.rows.specs.Rows.{Laid, members, edges, capacity, edge_source, edge_target, edge_delay}
use Rattle.rows.specs.Nets.{net_in, routes_from}
use Rattle.requests.specs.declared.Phase.{Phase}
use Rattle.requests.specs.declared.Phase.TheVariants.{Absent, Waiting, Running, Resting, Halted}
use Rattle.requests.specs.Phases.{phase_said}
use Rattle.records.specs.Records.{plainly}
use Rattle.members.specs.Codes.{member_of, session_of}
use Rattle.members.specs.Formed.{every as allTo, limited, orderly, formed_record, formed_at, blank_at, formed}
use Rattle.members.proofs.Records.{every-at}
use Rattle.members.proofs.Codes.{view-at}
use Rattle.members.proofs.Formed.{formed-count, formed-holds}
use Rattle.states.specs.Records.{record_at, joined_at}
use Rattle.kinds.specs.Phases.{phase_in}
use Rattle.kinds.specs.Refusals.{target_refusal, route_refusal, payload_in, kind_in}
use Rattle.kinds.proofs.Tests.{or_yes}

-- ---- phases
abbrev stage : Bool → Bool → Bool → Bool → Stage
stage joined all stopped idle = pick (not joined) absent (pick (not all) waiting (pick stopped halted (pick idle resting running)))

said : (joined all stopped idle : Bool)
    → phase_said (pick (not joined) Absent (pick (not all) Waiting (pick stopped Halted (pick idle Resting Running)))) ≡ stage joined all stopped idle
said joined all stopped idle = grind arith

-- ---- routes
abbrev pub route_of : List ℕ → ℕ → Route
route_of b k = record { source = edge_source b k; target = edge_target b k; delay = edge_delay b k }

pub routes-length : (b : List ℕ) (i k : ℕ) → length (routes_from b i k) ≡ k
unfolding routes_from
routes-length b i zero = refl
routes-length b i (suc k) = ap suc (routes-length b (suc i) k)

routes-at : (b : List ℕ) (i k j : ℕ) → j < k → get_or (routes_from b i k) j no_route ≡ route_of b (i + j)
unfolding routes_from
routes-at b i zero j l = absurd (not-suc-le-zero l)
routes-at b i (suc k) zero l = let e : i ≡ i + 0 = omega arith in ap (route_of b) e
routes-at b i (suc k) (suc j) l = let e : suc i + j ≡ i + suc j = omega arith in routes-at b (suc i) k j (le_of_suc-le-suc l) ∙ ap (route_of b) e

-- the route of a number is its edge
pub route_is : (b : List ℕ) (k : ℕ) → k < edges b → route_at (net_in b) k ≡ route_of b k
unfolding net_in
route_is b k l = let e : 0 + k ≡ k = omega arith in routes-at b 0 (edges b) k l ∙ ap (route_of b) e

-- ---- five refusals of a payload, one after the other
tests : (a b c d e : Bool) → or_else (when a 26) (or_else (when b 27) (or_else (when c 28) (or_else (when d 29) (when e 30)))) ≡ pick a 26 (pick b 27 (pick c 28 (pick d 29 (pick e 30 0))))
tests a b c d e = grind arith

abbrev asked : ℕ → ℕ → Tag → ℕ → Route → Member → Member → ℕ → ℕ
asked i k t n r source target room =
    or_else (when (leb n k) 26)
    (or_else (when (not (eqb r.source i)) 27)
    (or_else (when (bad_payload source r.delay t) 28)
    (or_else (when (bad_target target t) 29)
    (when (full room t target.transit) 30))))

-- ---- a state and a slab that are well formed
module _ (b : List ℕ) (laid : Laid b) (s : State) (w : List ℕ) (fits : 64 * members b ≤ length w) (h : formed (net_in b) s w ≡ true) where
  record_passes : (i : ℕ) → i < members b → formed_record (capacity b i) (record_at s i) (stretch i w) ≡ true
  unfolding formed net_in formed_at
  record_passes i l =
      let p = both_true (eqb s.count (members b)) (both (allTo (formed_at (net_in b) s w) (members b)) (allTo (blank_at s (members b)) (32 - members b))) h in
      let q = both_true (allTo (formed_at (net_in b) s w) (members b)) (allTo (blank_at s (members b)) (32 - members b)) p.1 in
      every-at (formed_at (net_in b) s w) (members b) i l q.0

  -- no more tags than the capacity
  pub room : (i : ℕ) → i < members b → (record_at s i).held ≤ capacity b i
  unfolding formed_record formed_stretch
  room i l =
      let r = record_at s i in
      let ws = stretch i w in
      let c = or_never r.completed in
      let p = both_true (limited r) (both (orderly r) (formed_stretch (capacity b i) c r.held ws)) (record_passes i l) in
      let q = both_true (orderly r) (formed_stretch (capacity b i) c r.held ws) p.1 in
      let t = both_true (leb r.held (capacity b i)) (both (ascending c (tags_of r.held ws)) (blank (drop (2 * r.held) ws))) q.1 in
      leb-true r.held (capacity b i) t.0

  pub few : (i : ℕ) → i < members b → (record_at s i).held ≤ 32
  few i l = omega (arith, room i l, laid.small i l)

  pub view-is : (i : ℕ) → i < members b → view (session_of s w) i ≡ member_of (record_at s i) (stretch i w)
  view-is i l = view-at s w i (omega (arith, formed-count b laid s w fits h))

  pub tags-count : (i : ℕ) → i < members b → length (tags_of (record_at s i).held (stretch i w)) ≡ (record_at s i).held
  tags-count i l = ((formed-holds b laid s w fits h).at i l).laid.count

  joined_same : (k : ℕ) → k < members b → joined_at s k ≡ (view (session_of s w) k).joined
  unfolding joined_at
  joined_same k l = ap (λ (m : Member). m.joined) (sym (view-is k l))

  pub all-joined-is : every (joined_at s) (members b) ≡ every (λ k. (view (session_of s w) k).joined) (members b)
  all-joined-is = every-same (joined_at s) (λ k. (view (session_of s w) k).joined) (members b) joined_same

  pub phase-is : (i : ℕ) → i < members b → phase_said (phase_in s (members b) i) ≡ phase_of (net_in b) (session_of s w) i
  unfolding phase_of net_in
  phase-is i l =
      let r = record_at s i in
      let m = view (session_of s w) i in
      let all = every (joined_at s) (members b) in
      said r.joined all r.stopped (is_set r.idle)
      ∙ ap (λ (m : Member). stage m.joined all m.stopped (is_set m.idle)) (sym (view-is i l))
      ∙ ap (λ (a : Bool). stage m.joined a m.stopped (is_set m.idle)) all-joined-is

  unknown_route : (i k : ℕ) (t : Tag) → leb (edges b) k ≡ true → payload_in b s w i k t ≡ payload_refusal (net_in b) (session_of s w) i k t
  unfolding payload_in payload_refusal net_in
  unknown_route i k t e =
      rw e (or_yes (leb (length (routes_from b 0 (edges b))) k) 26 _ (omega arith) (ap (λ (n : ℕ). leb n k) (routes-length b 0 (edges b)) ∙ e))

  known_route : (i k : ℕ) (t : Tag) → i < members b → k < edges b → payload_in b s w i k t ≡ payload_refusal (net_in b) (session_of s w) i k t
  unfolding payload_in route_refusal target_refusal payload_refusal net_in bad_payload bad_target
  known_route i k t l kl =
      let j = edge_target b k in
      let jl = laid.edge-targets.at k kl in
      let x = session_of s w in
      sym
      (ap (λ (n : ℕ). asked i k t n (route_at (net_in b) k) (view x i) (view x (route_at (net_in b) k).target) (capacity b (route_at (net_in b) k).target)) (routes-length b 0 (edges b))
      ∙ ap (λ (r : Route). asked i k t (edges b) r (view x i) (view x r.target) (capacity b r.target)) (route_is b k kl)
      ∙ ap (λ (m : Member). asked i k t (edges b) (route_of b k) m (view x j) (capacity b j)) (view-is i l)
      ∙ ap (λ (m : Member). asked i k t (edges b) (route_of b k) (member_of (record_at s i) (stretch i w)) m (capacity b j)) (view-is j jl)
      ∙ tests (leb (edges b) k) (not (eqb (edge_source b k) i)) (bad_payload (plainly (record_at s i)) (edge_delay b k) t) (bad_target (plainly (record_at s j)) t) (full (capacity b j) t (tags_of (record_at s j).held (stretch j w)))
      ∙ ap (λ (n : ℕ). pick (leb (edges b) k) 26 (pick (not (eqb (edge_source b k) i)) 27 (pick (bad_payload (plainly (record_at s i)) (edge_delay b k) t) 28 (pick (bad_target (plainly (record_at s j)) t) 29 (pick (both (not (holds t (tags_of (record_at s j).held (stretch j w)))) (leb (capacity b j) n)) 30 0))))) (tags-count j jl))

  pub payload-is : (i k : ℕ) (t : Tag) → i < members b → payload_in b s w i k t ≡ payload_refusal (net_in b) (session_of s w) i k t
  payload-is i k t l = by (leb (edges b) k) refl
    where
      by : (a : Bool) → leb (edges b) k ≡ a → payload_in b s w i k t ≡ payload_refusal (net_in b) (session_of s w) i k t
      by true e = unknown_route i k t e
      by false e = known_route i k t l (leb-false (edges b) k e)

  identity-is : (session_of s w).identity ≡ s.identity
  unfolding session_of
  identity-is = refl

  pub kind-is : (i : ℕ) (q : Request) → i < members b → kind_in b s w i q ≡ kind_refusal (net_in b) (session_of s w) i q
  unfolding kind_in kind_refusal bad_publication bad_completion
  kind-is i (Hello d) l = ap (λ (n : ℕ). when (not (eqb d n)) 22) (sym identity-is)
  kind-is i (Publish r e) l = ap (λ (m : Member). when (bad_publication m r e) 24) (sym (view-is i l))
  kind-is i (Complete t) l = ap (λ (m : Member). when (bad_completion m t) 25) (sym (view-is i l))
  kind-is i (Payload k t p) l = payload-is i k t l
  kind-is i (ConfirmIdle r) l = ap (λ (m : Member). when (not (confirms m.publication r)) 31) (sym (view-is i l))
  kind-is i Stop l = refl
  kind-is i (Abort c) l = refl

  -- what the table says of the phase that was found
  pub table_is : (i n r : ℕ) (q : Request) (p : Phase) → i < members b → n ≡ members b → p ≡ phase_in s n i → r ≡ lifecycle q (phase_said p)
      → r ≡ lifecycle q (phase_of (net_in b) (session_of s w) i)
  table_is i n r q p l e f g =
      g ∙ ap (λ (o : Phase). lifecycle q (phase_said o)) (f ∙ ap (λ (k : ℕ). phase_in s k i) e) ∙ ap (lifecycle q) (phase-is i l)

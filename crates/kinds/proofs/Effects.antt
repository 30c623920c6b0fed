-- What the kinds do to state and slab is what they do to the session.
-- Assumes nothing.
use Prim.Native.Nat.{ℕ, ◌*◌, ◌<◌, ◌≤◌}
use native.Mathlib.Omega.{arith}
use mathlib.Core.Path.{◌≡◌, refl, sym, ap, subst, ◌∙◌}
use mathlib.Core.Bool.{Bool, true, false}
use mathlib.Core.List.{List, [], ◌∷◌}
use lib.Dec.{leb, eqb}
use lib.ListN.{length}
use borrow.Author.Tests.{leb-false}
use Rattle.std.specs.Prelude.{Option}
use Rattle.basis.specs.Choice.{not, either}
use Rattle.basis.specs.Parts.{replaced}
use Rattle.tags.specs.declared.Tag.{Tag}
use Rattle.plans.specs.Nets.{Net, Route}
use Rattle.transit.specs.Tags.{insert, after, full, IsFinite}
use Rattle.transit.specs.Words.{slots, lay}
use Rattle.states.specs.declared.Request.{Request}
use Rattle.states.specs.declared.Request.TheVariants.{Hello, Publish, Complete, Payload, ConfirmIdle, Stop, Abort}
use Rattle.states.specs.declared.Delivery.TheVariants.{Carried, Stopped}
use Rattle.states.specs.declared.MemberState.{MemberState}
use Rattle.states.specs.declared.State.{State}
use Rattle.states.specs.Sessions.{Member, Session, view, put, with_joined, with_completed, with_transit, with_asked, with_stopped}
use Rattle.states.specs.Steps.{when, or_else, any, finite, is_abort, lifecycle, phase_of, route_at, bad_payload, bad_target, payload_refusal, kind_refusal, refusal_of, publishing, effect}
use Rattle.rows.specs.Rows.{Laid, members, edges, capacity, edge_target}
use Rattle.rows.specs.Nets.{net_in, routes_from}
use Rattle.records.specs.Records.{joined_record, published_record, completed_record, carrying_record, asked_record, stopped_record}
use Rattle.members.specs.Codes.{record_of, session_of, state_of, slab_of}
use Rattle.members.specs.Formed.{formed}
use Rattle.members.proofs.Codes.{session-length, state-put, slab-put, slab-kept}
use Rattle.members.proofs.Formed.{formed-count, formed-stretch, formed-state, formed-slab}
use Rattle.states.specs.Records.{record_at, with_record}
use Rattle.kinds.specs.Effects.{changed_record, Completes, Carries, Routed, sent_first}
use Rattle.kinds.proofs.Ties.{view-is, tags-count, route_is, routes-length}

-- ---- what no refusal says
zero-second : (a z : ℕ) → or_else a z ≡ 0 → z ≡ 0
zero-second a z h = grind arith

zero-first : (a z : ℕ) → or_else a z ≡ 0 → a ≡ 0
zero-first a z h = grind arith

when-zero : (a : Bool) (r : ℕ) → 0 < r → when a r ≡ 0 → a ≡ false
when-zero a r l h = grind arith

last-zero : (c : Bool) (l z : ℕ) → or_else (when c 21) (or_else l z) ≡ 0 → z ≡ 0
last-zero c l z h = zero-second l z (zero-second (when c 21) (or_else l z) h)

five : (a b c d e : Bool) → or_else (when a 26) (or_else (when b 27) (or_else (when c 28) (or_else (when d 29) (when e 30)))) ≡ 0 → (a ≡ false) × (c ≡ false) × (e ≡ false)
five a b c d e h = grind arith

first_false : (a b : Bool) → either a b ≡ false → a ≡ false
first_false a b h = grind arith

finite-of : (t : Tag) → not (finite t) ≡ false → IsFinite t
finite-of t h = grind arith

payload-finite : (m : Member) (d : ℕ) (t : Tag) → bad_payload m d t ≡ false → IsFinite t
unfolding bad_payload any
payload-finite m d t h = finite-of t (first_false (not (finite t)) _ h)

pub abort-never : (p : Net) (x : Session) (i c : ℕ) → refusal_of p x i (Abort c) ≡ 0 → ⊥
unfolding refusal_of
abort-never p x i c h = omega arith

pub no-abort : (p : Net) (x : Session) (i : ℕ) (q : Request) → refusal_of p x i q ≡ 0 → (c : ℕ) → q ≡ Abort c → ⊥
no-abort p x i q h c e = abort-never p x i c (subst (λ (r : Request). refusal_of p x i r ≡ 0) e h)

-- ---- what is sent first
pub sent-payload : (b : List ℕ) (x : Session) (i k : ℕ) (t : Tag) (h : ℕ) → k < edges b → (effect (net_in b) x i (Payload k t h)).sent ≡ Carried (edge_target b k) k t h ∷ []
unfolding effect
sent-payload b x i k t h l = ap (λ (r : Route). Carried r.target k t h ∷ []) (route_is b k l)

-- ---- a state and a slab that are well formed
module _ (b : List ℕ) (laid : Laid b) (s : State) (w : List ℕ) (fits : 64 * members b ≤ length w) (h : formed (net_in b) s w ≡ true) (whole : length s.members ≡ 32) where
  inside : (i : ℕ) → i < members b → i < length (session_of s w).members
  inside i l = omega (arith, session-length s w, formed-count b laid s w fits h)

  record_is : (i : ℕ) → i < members b → record_of (view (session_of s w) i) ≡ record_at s i
  record_is i l = ap record_of (view-is b laid s w fits h i l) ∙ ap (carrying_record (record_at s i)) (tags-count b laid s w fits h i l)

  put-state : (i : ℕ) (m : Member) → i < members b → with_record s i (record_of m) ≡ state_of (put (session_of s w) i m)
  put-state i m l =
      sym (state-put (session_of s w) i m (inside i l) ∙ ap (λ (y : State). with_record y i (record_of m)) (formed-state b laid s w fits h whole))

  put-slab : (i : ℕ) (m : Member) → i < members b → replaced (64 * i) (lay slots m.transit) w ≡ slab_of (put (session_of s w) i m) w
  put-slab i m l =
      sym (slab-put (session_of s w) w i m (inside i l) ∙ ap (replaced (64 * i) (lay slots m.transit)) (formed-slab b laid s w fits h))

  keeps : (i : ℕ) (m : Member) (f : MemberState → MemberState) (r : State) → i < members b → f (record_of (view (session_of s w) i)) ≡ record_of m
      → m.transit ≡ (view (session_of s w) i).transit → r ≡ with_record s i (f (record_at s i)) → (r ≡ state_of (put (session_of s w) i m)) × (w ≡ slab_of (put (session_of s w) i m) w)
  keeps i m f r l g ts e = (
    e ∙ ap (λ (y : MemberState). with_record s i y) (ap f (sym (record_is i l)) ∙ g) ∙ put-state i m l,
    sym (slab-kept (session_of s w) w i m ts ∙ formed-slab b laid s w fits h),
  )

  -- the kinds that leave the slab
  pub keep-done : (i : ℕ) (q : Request) (r : State) → i < members b → ((t : Tag) → q ≡ Complete t → ⊥) → ((k : ℕ) (t : Tag) (p : ℕ) → q ≡ Payload k t p → ⊥)
      → ((c : ℕ) → q ≡ Abort c → ⊥) → r ≡ with_record s i (changed_record (record_at s i) q)
      → (r ≡ state_of (effect (net_in b) (session_of s w) i q).session) × (w ≡ slab_of (effect (net_in b) (session_of s w) i q).session w)
  unfolding effect publishing
  keep-done i (Hello d) r l c p a e = keeps i (with_joined (view (session_of s w) i)) joined_record r l refl refl e
  keep-done i (Publish v n) r l c p a e = keeps i (publishing (view (session_of s w) i) v n) (λ m. published_record m v n) r l refl refl e
  keep-done i (Complete t) r l c p a e = absurd (c t refl)
  keep-done i (Payload k t h) r l c p a e = absurd (p k t h refl)
  keep-done i (ConfirmIdle v) r l c p a e = keeps i (with_asked (view (session_of s w) i) v) (λ m. asked_record m v) r l refl refl e
  keep-done i Stop r l c p a e = keeps i (with_stopped (view (session_of s w) i)) stopped_record r l refl refl e
  keep-done i (Abort n) r l c p a e = absurd (a n refl)

  pub complete_done : (i : ℕ) (t : Tag) (r : State) (out : List ℕ) → i < members b → Completes s w i t r out
      → (r ≡ state_of (effect (net_in b) (session_of s w) i (Complete t)).session) × (out ≡ slab_of (effect (net_in b) (session_of s w) i (Complete t)).session w)
  unfolding effect
  complete_done i t r out l c =
      let m = view (session_of s w) i in
      let left = after t m.transit in
      let d = c.done _ m.transit (formed-stretch b laid s w fits h i l) in (
        d.0 ∙ ap (λ (y : MemberState). with_record s i (completed_record y t (length left))) (sym (record_is i l)) ∙ put-state i (with_completed m t left) l,
        d.1 ∙ put-slab i (with_completed m t left) l,
      )

  -- a payload that is not refused
  module _ (i k : ℕ) (t : Tag) (p : ℕ) (free : refusal_of (net_in b) (session_of s w) i (Payload k t p) ≡ 0) where
    none : payload_refusal (net_in b) (session_of s w) i k t ≡ 0
    unfolding refusal_of kind_refusal
    none = last-zero (leb (net_in b).count i) (lifecycle (Payload k t p) (phase_of (net_in b) (session_of s w) i)) (payload_refusal (net_in b) (session_of s w) i k t) free

    clear : (leb (length (net_in b).routes) k ≡ false) × (bad_payload (view (session_of s w) i) (route_at (net_in b) k).delay t ≡ false)
        × (full ((net_in b).capacity (route_at (net_in b) k).target) t (view (session_of s w) (route_at (net_in b) k).target).transit ≡ false)
    unfolding payload_refusal
    clear =
        five (leb (length (net_in b).routes) k) (not (eqb (route_at (net_in b) k).source i)) (bad_payload (view (session_of s w) i) (route_at (net_in b) k).delay t)
        (bad_target (view (session_of s w) (route_at (net_in b) k).target) t) (full ((net_in b).capacity (route_at (net_in b) k).target) t (view (session_of s w) (route_at (net_in b) k).target).transit) none

    pub known : k < edges b
    unfolding net_in
    known =
        let e : k < length (routes_from b 0 (edges b)) = leb-false (length (routes_from b 0 (edges b))) k clear.0 in omega (arith, routes-length b 0 (edges b))

    roomy : full (capacity b (route_at (net_in b) k).target) t (view (session_of s w) (route_at (net_in b) k).target).transit ≡ false
    unfolding net_in
    roomy = clear.2

    pub deliver-done : (r : State) (out : List ℕ) → Carries s w (edge_target b k) (capacity b (edge_target b k)) t r out
        → (r ≡ state_of (effect (net_in b) (session_of s w) i (Payload k t p)).session) × (out ≡ slab_of (effect (net_in b) (session_of s w) i (Payload k t p)).session w)
    unfolding effect
    deliver-done r out c =
        let x = session_of s w in
        let j = edge_target b k in
        let l = laid.edge-targets.at k known in
        let to : (route_at (net_in b) k).target ≡ j = ap (λ (z : Route). z.target) (route_is b k known) in
        let room : full (capacity b j) t (view x j).transit ≡ false = subst (λ (n : ℕ). full (capacity b n) t (view x n).transit ≡ false) to roomy in
        let with = insert t (view x j).transit in
        let d = c.done _ (view x j).transit (formed-stretch b laid s w fits h j l) (payload-finite (view x i) (route_at (net_in b) k).delay t clear.1) room in (
          d.0 ∙ ap (λ (y : MemberState). with_record s j (carrying_record y (length with))) (sym (record_is j l)) ∙ put-state j (with_transit (view x j) with) l
              ∙ ap (λ (n : ℕ). state_of (put x n (with_transit (view x n) (insert t (view x n).transit)))) (sym to),
          d.1 ∙ put-slab j (with_transit (view x j) with) l ∙ ap (λ (n : ℕ). slab_of (put x n (with_transit (view x n) (insert t (view x n).transit))) w) (sym to),
        )

-- what each kind sends first, on any plan
pub sent-hello : (p : Net) (x : Session) (i d : ℕ) → (effect p x i (Hello d)).sent ≡ []
unfolding effect
sent-hello p x i d = refl

pub sent_publish : (p : Net) (x : Session) (i r : ℕ) (e : Option Tag) → (effect p x i (Publish r e)).sent ≡ []
unfolding effect
sent_publish p x i r e = refl

pub sent_complete : (p : Net) (x : Session) (i : ℕ) (t : Tag) → (effect p x i (Complete t)).sent ≡ []
unfolding effect
sent_complete p x i t = refl

pub sent_confirm : (p : Net) (x : Session) (i r : ℕ) → (effect p x i (ConfirmIdle r)).sent ≡ []
unfolding effect
sent_confirm p x i r = refl

pub sent-stop : (p : Net) (x : Session) (i : ℕ) → (effect p x i Stop).sent ≡ Stopped i ∷ []
unfolding effect
sent-stop p x i = refl

-- ---- what is sent first, by every kind
pub sent_is : (b : List ℕ) (x : Session) (i : ℕ) (q : Request) → Routed b q → (effect (net_in b) x i q).sent ≡ sent_first b i q
unfolding effect
sent_is b x i (Hello d) l = refl
sent_is b x i (Publish r e) l = refl
sent_is b x i (Complete t) l = refl
sent_is b x i (Payload k t h) l = sent-payload b x i k t h l
sent_is b x i (ConfirmIdle r) l = refl
sent_is b x i Stop l = refl
sent_is b x i (Abort c) l = refl

-- a request that is not refused names a route that is there
pub routed : (b : List ℕ) (laid : Laid b) (s : State) (w : List ℕ) (fits : 64 * members b ≤ length w) (h : formed (net_in b) s w ≡ true) (whole : length s.members ≡ 32)
    (i : ℕ) (q : Request) → refusal_of (net_in b) (session_of s w) i q ≡ 0 → Routed b q
routed b laid s w fits h whole i (Hello d) free = tt
routed b laid s w fits h whole i (Publish r e) free = tt
routed b laid s w fits h whole i (Complete t) free = tt
routed b laid s w fits h whole i (Payload k t p) free = known b laid s w fits h whole i k t p free
routed b laid s w fits h whole i (ConfirmIdle r) free = tt
routed b laid s w fits h whole i Stop free = tt
routed b laid s w fits h whole i (Abort c) free = tt

-- and comes of a member that is there
pub member-known : (p : Net) (x : Session) (i : ℕ) (q : Request) → refusal_of p x i q ≡ 0 → i < p.count
unfolding refusal_of
member-known p x i q free =
    let z = or_else (lifecycle q (phase_of p x i)) (kind_refusal p x i q) in
    let one = zero-second (when (is_abort q) 20) (or_else (when (leb p.count i) 21) z) free in
    leb-false p.count i (when-zero (leb p.count i) 21 (omega arith) (zero-first (when (leb p.count i) 21) z one))

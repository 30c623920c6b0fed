-- What a host holds between calls stands for a session that a history leads to, and is well formed: 14 never arises in a session.
-- Assumes nothing.
use Prim.Native.Nat.{ℕ, zero, suc, ◌+◌, ◌*◌, ◌-◌, ◌<◌, ◌≤◌}
use native.Mathlib.Omega.{arith}
use mathlib.Core.Path.{◌≡◌, refl, sym, ap, ap₂, subst, ◌∙◌}
use mathlib.Core.Bool.{Bool, true, false}
use Rattle.std.proofs.Common.{Option, None, Some}
use mathlib.Core.List.{List, [], ◌∷◌, ◌++◌, map, append_assoc}
use lib.ListN.{length, get_or, take, drop, replicate, length-append, length-map, get_or-append, get_or-map}
use lib.Seq.{take_at, drop_at, drop-append-add}
use borrow.Author.Tests.{eq-eqb, le-leb}
use Rattle.basis.specs.Choice.{not, either}
use Rattle.basis.specs.Parts.{part}
use Rattle.tags.specs.declared.Tag.{Tag}
use Rattle.tags.specs.declared.Tag.TheVariants.{Never, Finite, Forever}
use Rattle.plans.specs.declared.Plan.{Plan}
use Rattle.plans.specs.Nets.{Net}
use Rattle.transit.specs.Tags.{limit, within, Finites, Within}
use Rattle.transit.specs.Words.{slots, lay, stretch}
use Rattle.transit.proofs.Lists.{within-finite}
use Rattle.transit.proofs.Words.{length-lay, tags-lay, laid-formed}
use Rattle.states.specs.declared.Publication.{Publication}
use Rattle.states.specs.declared.MemberState.{MemberState}
use Rattle.states.specs.declared.State.{State}
use Rattle.states.specs.Records.{blank_record}
use Rattle.states.specs.Sessions.{Member, Session, or_never, blank, fresh, view}
use Rattle.states.specs.Rules.{is_set}
use Rattle.states.specs.Formed.{Word, WordNext, WordLimit, Words, WellFormed, Sound}
use Rattle.members.specs.Codes.{member_of, members_from, session_of, record_of, lays_of, state_of, slab_of}
use Rattle.members.specs.Formed.{every, event_within, limit_within, orderly, limited, formed_record, is_blank, bare, unmarked, formed_at, blank_at, formed}
use Rattle.states.specs.Steps.{abandon}
use Rattle.demands.specs.Histories.{Reached, Answered, Moves}
use Rattle.demands.specs.Nets.{net_of, Taken, Alike}
use Rattle.demands.specs.Histories.{opened as Reached·opened, asked as Reached·asked, aborted as Reached·aborted}
use Rattle.demands.specs.Words.{Bounded, heard_by, Held, opened, asked, aborted, refused, Stands}
use Rattle.requests.specs.Asking.{asked_by}
use Rattle.demands.proofs.Histories.{formed as sound}
use Rattle.requests.proofs.Heard.{asked-fits}
use Rattle.demands.proofs.Nets.{demand_3_alike}

-- ---- each member's stretch
length-lays : (ms : List Member) → length (lays_of ms) ≡ 64 * length ms
unfolding lays_of
length-lays [] = refl
length-lays (m ∷ ms) = simp length-append (omega (arith, length-lay slots m.transit, length-lays ms))

stretch-of : (ms : List Member) (rest : List ℕ) (i : ℕ) → i < length ms → stretch i (lays_of ms ++ rest) ≡ lay slots (get_or ms i blank).transit
unfolding lays_of part
stretch-of [] rest i h = absurd (omega arith)
stretch-of (m ∷ ms) rest zero h = rw append_assoc (take_at (lay slots m.transit) (lays_of ms ++ rest) 64 (length-lay slots m.transit))
stretch-of (m ∷ ms) rest (suc i) h = rw append_assoc (onward (stretch-of ms rest i (omega arith)))
  where
    onward : take 64 (drop (64 * i) (lays_of ms ++ rest)) ≡ lay slots (get_or ms i blank).transit → take 64 (drop (64 * suc i) (lay slots m.transit ++ (lays_of ms ++ rest))) ≡ lay slots (get_or ms i blank).transit
    onward ih =
        let e : 64 * suc i ≡ length (lay slots m.transit) + 64 * i = omega (arith, length-lay slots m.transit) in
        ap (λ (k : ℕ). take 64 (drop k (lay slots m.transit ++ (lays_of ms ++ rest)))) e ∙ (ap (take 64) (drop-append-add (lay slots m.transit) (lays_of ms ++ rest) (64 * i)) ∙ ih)

-- ---- each member's record, and blank ones after
record_of_lem : (ms : List Member) (q i : ℕ) → i < length ms → get_or (map record_of ms ++ replicate q blank_record) i blank_record ≡ record_of (get_or ms i blank)
record_of_lem ms q i h = get_or-append (map record_of ms) (replicate q blank_record) blank_record i (omega (arith, length-map ms record_of)) ∙ get_or-map record_of ms i blank

blank-after : (ms : List Member) (q k : ℕ) → get_or (map record_of ms ++ replicate q blank_record) (length ms + k) blank_record ≡ blank_record
blank-after [] q k = let e : 0 + k ≡ k = omega arith in ap (λ (j : ℕ). get_or (replicate q blank_record) j blank_record) e ∙ blanks q k
  where
    blanks : (q k : ℕ) → get_or (replicate q blank_record) k blank_record ≡ blank_record
    blanks zero k = refl
    blanks (suc q) zero = refl
    blanks (suc q) (suc k) = blanks q k
blank-after (m ∷ ms) q k =
    let e : suc (length ms) + k ≡ suc (length ms + k) = omega arith in
    ap (λ (j : ℕ). get_or (map record_of (m ∷ ms) ++ replicate q blank_record) j blank_record) e ∙ blank-after ms q k

-- ---- read again: the same session
read-member : (m : Member) → Finites m.transit → length m.transit ≤ 32 → member_of (record_of m) (lay slots m.transit) ≡ m
read-member m f l = ap (λ (ts : List Tag). record { joined = m.joined; publication = m.publication; revision = m.revision; granted = m.granted; bound = m.bound; completed = m.completed; asked = m.asked; idle = m.idle; stopped = m.stopped; transit = ts }) (tags-lay slots m.transit f l)

read-members : (rs : List MemberState) (slab : List ℕ) (us : List Member) (i : ℕ) → ((j : ℕ) → j < length us → member_of (get_or rs (i + j) blank_record) (stretch (i + j) slab) ≡ get_or us j blank) → members_from rs slab i (length us) ≡ us
unfolding members_from
read-members rs slab [] i h = refl
read-members rs slab (u ∷ us) i h =
    ap₂ (λ (x : Member) (y : List Member). x ∷ y)
    (subst (λ (k : ℕ). member_of (get_or rs k blank_record) (stretch k slab) ≡ u) (zero-on i) (h 0 (omega arith)))
    (read-members rs slab us (suc i) (λ j l. subst (λ (k : ℕ). member_of (get_or rs k blank_record) (stretch k slab) ≡ get_or us j blank) (suc-on i j) (h (suc j) (omega arith))))
  where
    zero-on : (i : ℕ) → i + 0 ≡ i
    zero-on i = omega arith

    suc-on : (i j : ℕ) → i + suc j ≡ suc i + j
    suc-on i j = omega arith

-- ---- a well-formed record passes the test
word-within : (t : Tag) → Word t → within t ≡ true
word-within Never w = absurd w
word-within (Finite o m) w = le-leb o limit w.0
word-within Forever w = absurd w

words-within : (ts : List Tag) → Words ts → Within ts
words-within [] w = tt
words-within (t ∷ ts) w = (word-within t w.0, words-within ts w.1)

limit-within : (l : Option Tag) → WordLimit l → limit_within l ≡ true
limit-within None w = refl
limit-within (Some t) w = word-within t w

event-within : (q : Option Publication) → WordNext q → event_within q ≡ true
event-within None w = refl
event-within (Some q) w = limit-within q.next w

stops-idle : (a b : Bool) → (a ≡ true → b ≡ true) → either (not a) b ≡ true
stops-idle true b h = h refl
stops-idle false b h = refl

record_formed : (capacity : ℕ) (m : Member) → capacity ≤ 32 → WellFormed capacity m → formed_record capacity (record_of m) (lay slots m.transit) ≡ true
unfolding formed_record limited orderly
record_formed capacity m l h =
    rw (event-within m.publication h.event, limit-within m.completed h.completion, h.below, stops-idle m.stopped (is_set m.idle) h.rest)
    (laid-formed capacity (or_never m.completed) (length m.transit) (lay slots m.transit) m.transit l h.room
    record { words = refl; count = refl; finite = within-finite m.transit (words-within m.transit h.words); rising = h.rising }
    (words-within m.transit h.words))

every_true : (f : ℕ → Bool) (n : ℕ) → ((k : ℕ) → k < n → f k ≡ true) → every f n ≡ true
unfolding every
every_true f zero h = refl
every_true f (suc n) h = rw (every_true f n (λ k l. h k (omega arith)), h n (omega arith))

-- ---- a session held as words
module _ (p : Net) (bound : Bounded p) (s : Session) (h : Sound p s) (old : List ℕ) where
  one : (i : ℕ) → i < length s.members → WellFormed (p.capacity i) (get_or s.members i blank)
  one i l = h.each i (omega (arith, h.count))

  room : (i : ℕ) → i < length s.members → length (get_or s.members i blank).transit ≤ 32
  room i l = omega (arith, (one i l).room, bound.small i (omega (arith, h.count)))

  -- read again, it is the same session
  pub read_again : session_of (state_of s) (slab_of s old) ≡ s
  unfolding session_of state_of slab_of
  read_again =
      ap (λ (ms : List Member). record { members = ms; identity = s.identity; cause = s.cause; code = s.code })
      (read-members (map record_of s.members ++ replicate (32 - length s.members) blank_record) (lays_of s.members ++ drop (64 * length s.members) old) s.members 0
      (λ j l. subst (λ (k : ℕ). member_of (get_or (map record_of s.members ++ replicate (32 - length s.members) blank_record) k blank_record) (stretch k (lays_of s.members ++ drop (64 * length s.members) old)) ≡ get_or s.members j blank) (from_zero j) (read j l)))
    where
      from_zero : (j : ℕ) → j ≡ 0 + j
      from_zero j = omega arith

      read : (j : ℕ) → j < length s.members → member_of (get_or (map record_of s.members ++ replicate (32 - length s.members) blank_record) j blank_record) (stretch j (lays_of s.members ++ drop (64 * length s.members) old)) ≡ get_or s.members j blank
      read j l =
          ap₂ member_of (record_of_lem s.members (32 - length s.members) j l) (stretch-of s.members (drop (64 * length s.members) old) j l)
          ∙ read-member (get_or s.members j blank) (within-finite (get_or s.members j blank).transit (words-within (get_or s.members j blank).transit (one j l).words)) (room j l)

  -- and it passes 14
  pub formed-again : formed p (state_of s) (slab_of s old) ≡ true
  unfolding formed state_of slab_of
  formed-again =
      rw (eq-eqb (length s.members) p.count h.count, every_true (formed_at p (state_of s) (slab_of s old)) p.count each, every_true (blank_at (state_of s) p.count) (32 - p.count) after)
    where
      each : (i : ℕ) → i < p.count → formed_at p (state_of s) (slab_of s old) i ≡ true
      each i l = unfold formed_at state_of slab_of in (
          rw (record_of_lem s.members (32 - length s.members) i (omega (arith, h.count)), stretch-of s.members (drop (64 * length s.members) old) i (omega (arith, h.count)))
          (record_formed (p.capacity i) (get_or s.members i blank) (bound.small i l) (h.each i l)))

      after : (k : ℕ) → k < 32 - p.count → blank_at (state_of s) p.count k ≡ true
      after k l = unfold blank_at state_of is_blank bare unmarked in (
          rw (← h.count, blank-after s.members (32 - length s.members) k))

  -- the slab holds nothing else of it
  pub slab-again : slab_of s (slab_of s old) ≡ slab_of s old
  unfolding slab_of
  slab-again = ap (λ (l : List ℕ). lays_of s.members ++ l) (drop_at (lays_of s.members) (drop (64 * length s.members) old) (64 * length s.members) (length-lays s.members))

-- ---- every history
stands_of : (p : Net) → Bounded p → (s : Session) → Reached p s → (old : List ℕ) → Stands p (state_of s) (slab_of s old)
stands_of p b s r old =
    let h = sound p s r in
    let again = read_again p b s h old in
    record {
      reached = subst (Reached p) (sym again) r;
      state = ap state_of (sym again);
      words = sym (slab-again p b s h old) ∙ ap (λ (x : Session). slab_of x (slab_of s old)) (sym again);
      formed = formed-again p b s h old;
    }

pub stands : (p : Net) → Bounded p → (s : State) (slab : List ℕ) → Held p s slab → Stands p s slab
stands p b _ _ (opened identity slab l) = stands_of p b (fresh p.count identity) (Reached·opened identity) slab
stands p b _ _ (asked {s = s} {slab = slab} h words w e) =
    stands_of p b (heard_by p (session_of s slab) words) (Reached·asked (stands p b s slab h).reached (asked_by words).member (asked_by words).request (asked-fits words w e)) slab
stands p b _ _ (aborted {s = s} {slab = slab} h code) = stands_of p b (abandon p (session_of s slab) code).session (Reached·aborted (stands p b s slab h).reached code) slab
stands p b _ _ (refused {s = s} {slab = slab} h) = stands p b s slab h

-- ---- a plan that is taken lies within 01's bounds
pub bounded : (p : Plan) → Taken p → (n : Net) → Alike (net_of p) n → Bounded n
bounded p h n a =
    record {
      few = omega (arith, a.count, h.fits.few);
      small = λ i l. let l' = rw a.count at l in omega (arith, a.capacity i l', h.fits.small i l');
    }

-- Demand 3, and that 14 never arises, of whatever a host holds after any history
pub held : (p : Plan) → Taken p → (n : Net) → Alike (net_of p) n → (s : State) (slab : List ℕ) → Held n s slab
    → Stands n s slab × ((j : ℕ) → j < n.count → Answered n (view (session_of s slab)) j) × Moves n (view (session_of s slab))
held p h n a s slab r =
    let t = stands n (bounded p h n a) s slab r in
    let d = demand_3_alike p h n a (session_of s slab) t.reached in
    (t, d.0, d.1)

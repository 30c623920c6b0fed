-- One record and its stretch: well formed as a test, and as a member of a session.
-- Assumes nothing.
use Prim.Native.Nat.{ℕ, zero, suc, ◌≤◌, ◌<◌}
use mathlib.Core.Path.{◌≡◌, refl, ap}
use mathlib.Core.Bool.{Bool, true}
use mathlib.Core.List.{List, [], ◌∷◌}
use Rattle.std.proofs.Common.{Option, Some, None}
use native.Mathlib.Omega.{arith}
use native.Mathlib.Nat.{not-suc-le-zero}
use Rattle.std.proofs.lemmas.Grind.{common_steps}
use lib.ListN.{length, get_or}
use borrow.Author.Tests.{leb-true, le-leb, eqb-true}
use Rattle.basis.specs.Choice.{not, either}
use Rattle.tags.specs.declared.Tag.{Tag}
use Rattle.tags.specs.declared.Tag.TheVariants.{Never, Finite, Forever}
use Rattle.tags.specs.Tags.{top, tag_le}
use Rattle.tags.proofs.Order.{clash}
use Rattle.tags.proofs.Laws.{Small}
use Rattle.transit.specs.Tags.{limit, within, Finites, Within}
use Rattle.transit.specs.Words.{slots, lay, tags_of, Laid, formed_stretch}
use Rattle.transit.proofs.Lists.{both_true, within-finite}
use Rattle.transit.proofs.Words.{formed-laid, laid-formed, tags-lay}
use Rattle.states.specs.declared.Publication.{Publication}
use Rattle.states.specs.declared.MemberState.{MemberState}
use Rattle.states.specs.Records.{blank_record}
use Rattle.states.specs.Sessions.{Member, or_never, with_transit}
use Rattle.states.specs.Rules.{is_set}
use Rattle.states.specs.Formed.{Word, Words, WordNext, WordLimit, WellFormed}
use Rattle.members.specs.Codes.{member_of, record_of, Holds}
use Rattle.members.specs.Formed.{every, event_within, limit_within, limited, orderly, formed_record, bare, unmarked, is_blank}
use Rattle.members.proofs.Typed.{SmallEvent, SmallLimit, SmallRecord}

-- ---- tests
pub every-at : (f : ℕ → Bool) (k i : ℕ) → i < k → every f k ≡ true → f i ≡ true
unfolding every
every-at f zero i l h = absurd (not-suc-le-zero l)
every-at f (suc k) i l h = grind (arith, common_steps, both_true (every f k) (f k) h, every-at f k i)

pub every_of : (f : ℕ → Bool) (k : ℕ) → ((i : ℕ) → i < k → f i ≡ true) → every f k ≡ true
unfolding every
every_of f zero h = refl
every_of f (suc k) h = grind (arith, every_of f k, h)

-- ---- blank
pub blank-is : (r : MemberState) → is_blank r ≡ true → r ≡ blank_record
unfolding is_blank bare unmarked
blank-is r h = grind (arith, both_true, eqb-true)

pub blank-formed : is_blank blank_record ≡ true
unfolding is_blank bare unmarked
blank-formed = refl

-- ---- tags within L, with microsteps of at most M
word-of : (t : Tag) → within t ≡ true → Small t → Word t
word-of Never h s = clash h
word-of (Finite o m) h s = (leb-true o limit h, s)
word-of Forever h s = clash h

within_of : (t : Tag) → Word t → within t ≡ true
within_of Never h = absurd h
within_of (Finite o m) h = le-leb o limit h.0
within_of Forever h = absurd h

limit-word : (l : Option Tag) → limit_within l ≡ true → SmallLimit l → WordLimit l
limit-word None h s = tt
limit-word (Some t) h s = word-of t h s

limit-within : (l : Option Tag) → WordLimit l → limit_within l ≡ true
limit-within None h = refl
limit-within (Some t) h = within_of t h

event-word : (p : Option Publication) → event_within p ≡ true → SmallEvent p → WordNext p
event-word None h s = tt
event-word (Some p) h s = limit-word p.next h s

event-within : (p : Option Publication) → WordNext p → event_within p ≡ true
event-within None h = refl
event-within (Some p) h = limit-within p.next h

tags-words : (n : ℕ) (ws : List ℕ) → ((k : ℕ) → get_or ws k 0 ≤ top) → Within (tags_of n ws) → Words (tags_of n ws)
unfolding tags_of
tags-words zero ws u h = tt
tags-words (suc n) [] u h = tt
tags-words (suc n) (o ∷ []) u h = tt
tags-words (suc n) (o ∷ m ∷ ws) u h = (word-of (Finite o m) h.0 (u 1), tags-words n ws (λ k. u (suc (suc k))) h.1)

pub words-within : (ts : List Tag) → Words ts → Within ts
words-within [] h = tt
words-within (t ∷ ts) h = (within_of t h.0, words-within ts h.1)

pub words-finite : (ts : List Tag) → Words ts → Finites ts
words-finite ts h = within-finite ts (words-within ts h)

rest_of : (s i : Bool) → (s ≡ true → i ≡ true) → either (not s) i ≡ true
rest_of s i h = grind arith

-- ---- a record that passes
record_says : (capacity : ℕ) (r : MemberState) (ws : List ℕ) → formed_record capacity r ws ≡ true
    → (limited r ≡ true) × (orderly r ≡ true) × (formed_stretch capacity (or_never r.completed) r.held ws ≡ true)
unfolding formed_record
record_says capacity r ws h = grind (arith, both_true)

module _ (capacity : ℕ) (r : MemberState) (ws : List ℕ) (few : capacity ≤ 32) (whole : length ws ≡ 64) (h : formed_record capacity r ws ≡ true) where
  pub record_holds : Holds (or_never r.completed) r ws
  record_holds = record { laid = (formed-laid capacity (or_never r.completed) r.held ws few whole (record_says capacity r ws h).2).0 }

  pub record_formed : ((k : ℕ) → get_or ws k 0 ≤ top) → SmallRecord r → WellFormed capacity (member_of r ws)
  unfolding limited orderly
  record_formed u s =
      let says = record_says capacity r ws h in
      let p = formed-laid capacity (or_never r.completed) r.held ws few whole says.2 in
      let q = both_true (event_within r.publication) (limit_within r.completed) says.0 in
      let o = both_true (tag_le (or_never r.completed) (or_never r.granted)) (either (not r.stopped) (is_set r.idle)) says.1 in
      record {
        room = omega (arith, p.0.count, p.2);
        words = tags-words r.held ws u p.1;
        rising = p.0.rising;
        event = event-word r.publication q.0 s.0;
        completion = limit-word r.completed q.1 s.1;
        below = o.0;
        rest = λ e. rw e at o.1;
      }

-- a record that holds its tags is that of its member
abbrev held_as : MemberState → ℕ → MemberState
held_as r k = record { joined = r.joined; publication = r.publication; revision = r.revision; granted = r.granted; bound = r.bound; completed = r.completed; held = k; asked = r.asked; idle = r.idle; stopped = r.stopped }

pub record_back : (lo : Tag) (r : MemberState) (ws : List ℕ) → Holds lo r ws → record_of (member_of r ws) ≡ r
record_back lo r ws h = ap (held_as r) h.laid.count

-- ---- a member of a session, well formed
module _ (capacity : ℕ) (m : Member) (few : capacity ≤ 32) (h : WellFormed capacity m) where
  pub member-laid : Laid (or_never m.completed) (length m.transit) (lay slots m.transit) m.transit
  member-laid = record { words = refl; count = refl; finite = words-finite m.transit h.words; rising = h.rising }

  pub member-formed : formed_record capacity (record_of m) (lay slots m.transit) ≡ true
  unfolding formed_record limited orderly
  member-formed =
      let e = event-within m.publication h.event in
      let c = limit-within m.completed h.completion in
      let o = rest_of m.stopped (is_set m.idle) h.rest in
      let w = laid-formed capacity (or_never m.completed) (length m.transit) (lay slots m.transit) m.transit few h.room member-laid (words-within m.transit h.words) in
      rw (e, c, h.below, o, w) refl

  pub member_back : member_of (record_of m) (lay slots m.transit) ≡ m
  member_back = ap (with_transit m) (tags-lay slots m.transit (words-finite m.transit h.words) (omega (arith, h.room)))

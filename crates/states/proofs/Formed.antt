-- Well-formedness is kept by every step, so that no call of a session is refused with 14.
-- Assumes nothing.
use Prim.Native.Nat.{ℕ, zero, suc, ◌≤◌}
use native.Mathlib.Omega.{arith}
use mathlib.Core.Path.{◌≡◌, refl}
use mathlib.Core.Bool.{Bool, true, false}
use mathlib.Core.List.{List, [], ◌∷◌}
use lib.Dec.{ltb}
use lib.ListN.{length, get_or}
use borrow.Author.Tests.{ltb-true, ltb-false}
use Rattle.basis.specs.Choice.{pick, not}
use Rattle.tags.specs.declared.Tag.{Tag}
use Rattle.tags.specs.declared.Tag.TheVariants.{Never, Finite, Forever}
use Rattle.tags.specs.Tags.{tag_le, tag_before}
use Rattle.tags.proofs.Order.{clash, trans}
use Rattle.plans.specs.Nets.{Net}
use Rattle.transit.specs.Tags.{insert, after}
use Rattle.transit.proofs.Lists.{after-length, after-rising, insert-rising, insert-room}
use Rattle.std.specs.Prelude.{Option, Some, None}
use Rattle.states.specs.declared.Request.{Request}
use Rattle.states.specs.Sessions.{Member, Session, or_never, blank, fresh, view}
use Rattle.states.specs.Rules.{is_set}
use Rattle.states.specs.Steps.{finite, any, is_absent, bad_publication, bad_completion, bad_target, refusal_of, publishing, effect, step, abandon}
use Rattle.states.specs.Formed.{Fits, FitsNext, FitsRequest, Word, WordNext, Words, WellFormed, Sound}
use Rattle.states.proofs.Laws.{Le, Lt, picked, either_false, not_false}
use Rattle.states.proofs.Passes.{effect-long, step-long, abandon-long, fresh-long}
use Rattle.states.proofs.Memberwise.{Kept, passed, effect-all, step-all, abandon-all, fresh-all}

pub word : (t : Tag) → Fits t → finite t ≡ true → Word t
word Never h e = clash e
word (Finite o m) h e = h
word Forever h e = clash e

-- ---- tags removed
pub after-words : (t : Tag) (ts : List Tag) → Words ts → Words (after t ts)
unfolding after
after-words t [] h = tt
after-words t (x ∷ xs) h = picked Words (tag_le x t) (after t xs) (x ∷ after t xs) (after-words t xs h.1) (h.0, after-words t xs h.1)

-- ---- a tag inserted
pub insert-words : (t : Tag) (ts : List Tag) → Word t → Words ts → Words (insert t ts)
unfolding insert
insert-words t [] h hs = (h, tt)
insert-words t (x ∷ xs) h hs =
    picked Words (tag_le t x) (pick (tag_le x t) (x ∷ xs) (t ∷ (x ∷ xs))) (x ∷ insert t xs)
    (picked Words (tag_le x t) (x ∷ xs) (t ∷ (x ∷ xs)) hs (h, hs))
    (hs.0, insert-words t xs h hs.1)

-- ---- what the refusals leave
pub good-event : (m : Member) (r : ℕ) (e : Option Tag) → FitsNext e → bad_publication m r e ≡ false → WordNext (Some (record { revision = r; next = e }))
unfolding bad_publication any
good-event m r None a b = tt
good-event m r (Some t) a b = word t a (not_false (finite t) (either_false (not (finite t)) _ b).0)

pub good-completion : (m : Member) (t : Tag) → bad_completion m t ≡ false → (finite t ≡ true) × Le t (or_never m.granted)
unfolding bad_completion any
good-completion m t b =
    let x = either_false (not (finite t)) _ b in
    let y = either_false (is_absent m.granted) _ x.1 in
    let z = either_false (tag_before (or_never m.granted) t) _ y.1 in
    (not_false (finite t) x.0, not_false (tag_le t (or_never m.granted)) z.0)

pub good-target : (m : Member) (t : Tag) → bad_target m t ≡ false → Lt (or_never m.completed) t
unfolding bad_target any
good-target m t b =
    let x = either_false (is_set m.idle) _ b in
    let y = either_false m.stopped _ x.1 in
    (either_false (tag_le t (or_never m.completed)) false y.1).0

pub kept : (p : Net) → Kept p (λ i m. WellFormed (p.capacity i) m)
unfolding publishing
kept p =
    record {
      born = λ i. record { room = omega arith; words = tt; rising = tt; event = tt; completion = tt; below = refl; rest = λ e. e };
      joins = λ i m h. record { room = h.room; words = h.words; rising = h.rising; event = h.event; completion = h.completion; below = h.below; rest = h.rest };
      publishes = λ i m r e a b h. record { room = h.room; words = h.words; rising = h.rising; event = good-event m r e a b; completion = h.completion; below = h.below; rest = h.rest };
      completes = λ i m t a b h.
          let g = good-completion m t b in
          record { room = omega (arith, after-length t m.transit, h.room); words = after-words t m.transit h.words; rising = after-rising t (or_never m.completed) m.transit h.rising; event = h.event; completion = word t a g.0; below = g.1; rest = h.rest };
      receives = λ i m t a f b c h.
          record { room = insert-room (p.capacity i) t (or_never m.completed) m.transit h.rising c h.room; words = insert-words t m.transit (word t a f) h.words; rising = insert-rising t (or_never m.completed) m.transit (good-target m t b) h.rising; event = h.event; completion = h.completion; below = h.below; rest = h.rest };
      asks = λ i m r h. record { room = h.room; words = h.words; rising = h.rising; event = h.event; completion = h.completion; below = h.below; rest = h.rest };
      stops = λ i m a h. record { room = h.room; words = h.words; rising = h.rising; event = h.event; completion = h.completion; below = h.below; rest = λ e. a };
      gains = λ i m r t a h. record { room = h.room; words = h.words; rising = h.rising; event = h.event; completion = h.completion; below = trans (or_never m.completed) (or_never m.granted) t h.below a; rest = h.rest };
      rests = λ i m r h. record { room = h.room; words = h.words; rising = h.rising; event = h.event; completion = h.completion; below = h.below; rest = λ e. refl };
      hears = λ i m t h. record { room = h.room; words = h.words; rising = h.rising; event = h.event; completion = h.completion; below = h.below; rest = h.rest };
    }

-- where there is no member, the record read is blank
beyond : (l : List Member) (i : ℕ) → length l ≤ i → get_or l i blank ≡ blank
beyond [] i h = refl
beyond (m ∷ l) zero h = absurd (omega arith)
beyond (m ∷ l) (suc i) h = beyond l i (omega arith)

pub everywhere : (p : Net) (s : Session) → Sound p s → (i : ℕ) → WellFormed (p.capacity i) (view s i)
everywhere p s h i = go (ltb i p.count) refl
  where
    go : (b : Bool) → ltb i p.count ≡ b → WellFormed (p.capacity i) (view s i)
    go true e = h.each i (ltb-true i p.count e)
    go false e = rw (beyond s.members i (omega (arith, h.count, ltb-false i p.count e))) ((kept p).born i)

-- ---- a session is well formed from its opening on, whatever is asked
pub fresh-sound : (p : Net) (identity : ℕ) → Sound p (fresh p.count identity)
fresh-sound p identity = record { count = fresh-long p.count identity; each = λ i l. fresh-all p (λ i m. WellFormed (p.capacity i) m) (kept p) p.count i }

pub effect-sound : (p : Net) (s : Session) (k : ℕ) (q : Request) → FitsRequest q → refusal_of p s k q ≡ 0 → Sound p s → Sound p (effect p s k q).session
effect-sound p s k q a free h =
    record {
      count = effect-long p.count p s k q h.count;
      each = λ i l. effect-all p (λ i m. WellFormed (p.capacity i) m) (kept p) s k q a (passed p s k q free) (everywhere p s h) i;
    }

pub step-sound : (p : Net) (s : Session) (k : ℕ) (q : Request) → FitsRequest q → Sound p s → Sound p (step p s k q).session
step-sound p s k q a h =
    record {
      count = step-long p.count p s k q h.count;
      each = λ i l. step-all p (λ i m. WellFormed (p.capacity i) m) (kept p) s k q a (everywhere p s h) i;
    }

pub abandon-sound : (p : Net) (s : Session) (code : ℕ) → Sound p s → Sound p (abandon p s code).session
abandon-sound p s code h =
    record {
      count = abandon-long p.count p s code h.count;
      each = λ i l. abandon-all p (λ i m. WellFormed (p.capacity i) m) (kept p) s code (everywhere p s h) i;
    }

-- One member's record replaced: what stays true of all.
-- Assumes nothing.
use Prim.Native.Nat.{ℕ, ◌<◌}
use mathlib.Core.Path.{◌≡◌, refl}
use mathlib.Core.Bool.{true}
use mathlib.Core.List.{List, [], ◌∷◌}
use lib.ListN.{length, length-set}
use Rattle.tags.specs.declared.Tag.{Tag}
use Rattle.tags.specs.Tags.{tag_le}
use Rattle.tags.proofs.Order.{reflexive}
use Rattle.tags.proofs.Laws.{Small}
use Rattle.plans.specs.Nets.{Net}
use Rattle.transit.specs.Tags.{first_of}
use Rattle.states.specs.Sessions.{Member, Session, view, put}
use Rattle.states.specs.Rules.{active, awaited, earliest}
use Rattle.states.proofs.Laws.{picked}
use Rattle.states.proofs.Passes.{put_all}
use Rattle.demands.proofs.Horizons.{Settled, Inputs, Own, still-settled}

-- every microstep is at most M
abbrev pub SmallAll : List Tag → Type 0
SmallAll [] = Unit {0}
SmallAll (t ∷ ts) = Small t × SmallAll ts

abbrev pub SmallMember : Member → Type 0
SmallMember m = Small (awaited m.publication) × SmallAll m.transit

first_small : (ts : List Tag) → SmallAll ts → Small (first_of ts)
first_small [] h = tt
first_small (t ∷ ts) h = h.0

pub earliest-small : (m : Member) → SmallMember m → Small (earliest m)
unfolding earliest
earliest-small m h = picked Small (tag_le (awaited m.publication) (first_of m.transit)) (awaited m.publication) (first_of m.transit) h.0 (first_small m.transit h.1)

-- as many members as the plan has, and small tags
pub record Sane (p : Net) (s : Session) : Type 0 where
  pub long : length s.members ≡ p.count
  pub small : (i : ℕ) → i < p.count → SmallMember (view s i)

pub record Steady (p : Net) (s : Session) : Type 0 where
  pub sane : Sane p s
  pub settled : (i : ℕ) → i < p.count → Settled p (view s) i

-- ---- one record replaced
pub put-sane : (p : Net) (s : Session) → Sane p s → (k : ℕ) (m : Member) → (k < p.count → SmallMember m) → Sane p (put s k m)
put-sane p s h k m l =
    record {
      long = simp length-set h.long;
      small = put_all s k m (λ i x. i < p.count → SmallMember x) l h.small;
    }

-- ---- a record that changes nothing for others
pub same_inputs : (m : Member) → SmallMember m → Inputs m m
same_inputs m h = record { earlier = reflexive (earliest m); tiny = earliest-small m h; completion = refl }

pub same-own : (m : Member) → Own m m
same-own m = record { publication = refl; revision = refl; granted = refl; awake = λ a. a }

pub put_inputs : (p : Net) (s : Session) → Sane p s → (k : ℕ) (m : Member) → (k < p.count → Inputs (view s k) m) → (i : ℕ) → i < p.count → Inputs (view s i) (view (put s k m) i)
put_inputs p s h k m l = put_all s k m (λ i x. i < p.count → Inputs (view s i) x) l (λ i b. same_inputs (view s i) (h.small i b))

-- a Quiet change keeps a session steady
pub put-steady : (p : Net) (s : Session) → Steady p s → (k : ℕ) (m : Member) → (k < p.count → SmallMember m) → (k < p.count → Inputs (view s k) m) → Own (view s k) m → Steady p (put s k m)
put-steady p s h k m small inputs own =
    record {
      sane = put-sane p s h.sane k m small;
      settled = λ i l. still-settled p (view s) (view (put s k m)) i (put_inputs p s h.sane k m inputs) (put_all s k m (λ i x. Own (view s i) x) own (λ i. same-own (view s i)) i) (h.settled i l);
    }

-- only what nobody else reads is changed, and nobody wakes
pub record Light (m m' : Member) : Type 0 where
  pub publication : m'.publication ≡ m.publication
  pub transit : m'.transit ≡ m.transit
  pub completed : m'.completed ≡ m.completed
  pub revision : m'.revision ≡ m.revision
  pub granted : m'.granted ≡ m.granted
  pub awake : active m' ≡ true → active m ≡ true

pub put_light : (p : Net) (s : Session) → Steady p s → (k : ℕ) (m : Member) → Light (view s k) m → Steady p (put s k m)
unfolding earliest
put_light p s h k m l =
    put-steady p s h k m (λ n. small n) (λ n. record { earlier = rw (l.publication, l.transit) (reflexive (earliest (view s k))); tiny = earliest-small m (small n); completion = l.completed })
    record { publication = l.publication; revision = l.revision; granted = l.granted; awake = l.awake }
  where
    small : k < p.count → SmallMember m
    small n = rw (l.publication, l.transit) (h.sane.small k n)

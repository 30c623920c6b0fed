-- The session that a state and a slab stand for, and back: records and stretches, position by position.
-- Assumes nothing.
use Prim.Native.Nat.{ℕ, zero, suc, ◌+◌, ◌*◌, ◌-◌, ◌≤◌, ◌<◌}
use mathlib.Core.Path.{◌≡◌, refl, sym, ap, ◌∙◌}
use mathlib.Core.List.{List, [], ◌∷◌, ◌++◌, append_assoc, map}
use native.Mathlib.Omega.{arith}
use native.Mathlib.Nat.{not-suc-le-zero, le_of_suc-le-suc}
use Rattle.std.proofs.lemmas.Grind.{common_steps}
use Rattle.std.proofs.lemmas.List.{map-set}
use lib.ListN.{length, get_or, set, take, drop, replicate, length-map, length-set, take-append-drop, get_or-map}
use lib.Seq.{drop-cons, drop-drop, take-add, take_at, drop-append-add, take-append-add, set-append_left}
use Rattle.basis.specs.Parts.{part, replaced}
use Rattle.transit.specs.Words.{slots, lay, stretch}
use Rattle.transit.proofs.Words.{length-lay}
use Rattle.states.specs.declared.MemberState.{MemberState}
use Rattle.states.specs.declared.State.{State}
use Rattle.states.specs.Records.{blank_record}
use Rattle.states.specs.Sessions.{Member, Session, blank, view, put}
use Rattle.members.specs.Codes.{member_of, members_from, session_of, record_of, lays_of, state_of, slab_of}

-- ---- read
module _ (rs : List MemberState) (slab : List ℕ) where
  -- the member of place j
  abbrev pub member_at : ℕ → Member
  member_at j = member_of (get_or rs j blank_record) (stretch j slab)

  pub length-members : (i k : ℕ) → length (members_from rs slab i k) ≡ k
  unfolding members_from
  length-members i zero = refl
  length-members i (suc k) = ap suc (length-members (suc i) k)

  pub members-at : (i k j : ℕ) → j < k → get_or (members_from rs slab i k) j blank ≡ member_at (i + j)
  unfolding members_from
  members-at i zero j l = absurd (not-suc-le-zero l)
  members-at i (suc k) zero l = grind (arith, common_steps)
  members-at i (suc k) (suc j) l = grind (arith, common_steps, members-at (suc i) k j)

  -- the records of the members are those that were read
  pub records-back : (i k : ℕ) → i + k ≤ length rs → ((j : ℕ) → j < i + k → record_of (member_at j) ≡ get_or rs j blank_record)
      → map record_of (members_from rs slab i k) ≡ take k (drop i rs)
  unfolding members_from
  records-back i zero l h = refl
  records-back i (suc k) l h = grind (arith, common_steps, drop-cons rs i blank_record, h i, records-back (suc i) k (omega arith) (λ j m. h j (omega arith)))

  -- and their words
  pub lays_back : (i k : ℕ) → 64 * i + 64 * k ≤ length slab → ((j : ℕ) → j < i + k → lay slots (member_at j).transit ≡ stretch j slab)
      → lays_of (members_from rs slab i k) ≡ take (64 * k) (drop (64 * i) slab)
  unfolding members_from lays_of part
  lays_back i zero l h = refl
  lays_back i (suc k) l h =
      let more : 64 * suc k ≡ 64 + 64 * k = omega arith in
      let next : 64 * i + 64 ≡ 64 * suc i = omega arith in
      rw (more, take-add, drop-drop, next) (cc (h i (omega arith), lays_back (suc i) k (omega arith) (λ j m. h j (omega arith))))

  -- records that are blank from place n on
  pub blanks-back : (n m : ℕ) → n + m ≡ length rs → ((k : ℕ) → k < m → get_or rs (n + k) blank_record ≡ blank_record) → replicate m blank_record ≡ drop n rs
  blanks-back n zero e h = grind (arith, common_steps)
  blanks-back n (suc m) e h =
      let rest = blanks-back (suc n) m (omega arith) (λ k l. let q : suc n + k ≡ n + suc k = omega arith in rw q (h (suc k) (omega arith))) in
      grind (arith, common_steps, h 0, drop-cons rs n blank_record, rest)

pub session-length : (s : State) (slab : List ℕ) → length (session_of s slab).members ≡ s.count
unfolding session_of
session-length s slab = length-members s.members slab 0 s.count

pub view-at : (s : State) (slab : List ℕ) (i : ℕ) → i < s.count → view (session_of s slab) i ≡ member_of (get_or s.members i blank_record) (stretch i slab)
unfolding session_of
view-at s slab i l = let e : 0 + i ≡ i = omega arith in members-at s.members slab 0 s.count i l ∙ ap (member_at s.members slab) e

-- ---- read and written again
abbrev stated : State → List MemberState → ℕ → State
stated s ms k = record { members = ms; count = k; identity = s.identity; cause = s.cause; code = s.code }

module _ (s : State) (slab : List ℕ) where
  pub state-back : length s.members ≡ 32 → s.count ≤ 32
      → ((j : ℕ) → j < s.count → record_of (member_at s.members slab j) ≡ get_or s.members j blank_record)
      → ((k : ℕ) → k < 32 - s.count → get_or s.members (s.count + k) blank_record ≡ blank_record)
      → state_of (session_of s slab) ≡ s
  unfolding state_of session_of
  state-back whole few back rest =
      let ms = map record_of (members_from s.members slab 0 s.count) in
      ap (λ (k : ℕ). stated s (ms ++ replicate (32 - k) blank_record) k) (length-members s.members slab 0 s.count)
      ∙ ap (λ (xs : List MemberState). stated s (xs ++ replicate (32 - s.count) blank_record) s.count) (records-back s.members slab 0 s.count (omega arith) (λ j l. back j (omega arith)))
      ∙ ap (λ (xs : List MemberState). stated s (take s.count s.members ++ xs) s.count) (blanks-back s.members slab s.count (32 - s.count) (omega arith) rest)
      ∙ ap (λ (xs : List MemberState). stated s xs s.count) (take-append-drop s.count s.members)

  pub slab-back : 64 * s.count ≤ length slab → ((j : ℕ) → j < s.count → lay slots (member_at s.members slab j).transit ≡ stretch j slab)
      → slab_of (session_of s slab) slab ≡ slab
  unfolding slab_of session_of
  slab-back fits back =
      ap (λ (k : ℕ). lays_of (members_from s.members slab 0 s.count) ++ drop (64 * k) slab) (length-members s.members slab 0 s.count)
      ∙ ap (λ (w : List ℕ). w ++ drop (64 * s.count) slab) (lays_back s.members slab 0 s.count (omega arith) (λ j l. back j (omega arith)))
      ∙ take-append-drop (64 * s.count) slab

-- ---- written
pub length-lays : (ms : List Member) → length (lays_of ms) ≡ 64 * length ms
unfolding lays_of
length-lays [] = refl
length-lays (m ∷ ms) = grind (arith, common_steps, length-lay slots m.transit, length-lays ms)

-- what stands behind a front
replaced-behind : (a : ℕ) (front xs l : List ℕ) → replaced (length front + a) xs (front ++ l) ≡ front ++ replaced a xs l
unfolding replaced
replaced-behind a front xs l =
    let e : length front + a + length xs ≡ length front + (a + length xs) = omega arith in
    rw (e, take-append-add, drop-append-add) (simp append_assoc)

-- as many in the place of a front
replaced-front : (xs front l : List ℕ) → length xs ≡ length front → replaced 0 xs (front ++ l) ≡ xs ++ l
unfolding replaced
replaced-front xs front l e = grind (arith, common_steps)

-- the words of the member at place i
pub lays-at : (ms : List Member) (rest : List ℕ) (i : ℕ) → i < length ms → stretch i (lays_of ms ++ rest) ≡ lay slots (get_or ms i blank).transit
unfolding lays_of part
lays-at [] rest i l = absurd (not-suc-le-zero l)
lays-at (m ∷ ms) rest zero l =
    ap (take 64) (append_assoc (lay slots m.transit) (lays_of ms) rest) ∙ take_at (lay slots m.transit) (lays_of ms ++ rest) 64 (length-lay slots m.transit)
lays-at (m ∷ ms) rest (suc i) l =
    let front = lay slots m.transit in
    let e : 64 * suc i ≡ length front + 64 * i = omega (arith, length-lay slots m.transit) in
    rw (e, append_assoc, drop-append-add) (lays-at ms rest i (le_of_suc-le-suc l))

-- one member replaced: its stretch is, and no other word
pub lays-put : (ms : List Member) (rest : List ℕ) (i : ℕ) (m : Member) → i < length ms
    → lays_of (set ms i m) ++ rest ≡ replaced (64 * i) (lay slots m.transit) (lays_of ms ++ rest)
unfolding lays_of
lays-put [] rest i m l = absurd (not-suc-le-zero l)
lays-put (x ∷ ms) rest zero m l =
    let e : length (lay slots m.transit) ≡ length (lay slots x.transit) = length-lay slots m.transit ∙ sym (length-lay slots x.transit) in
    rw (append_assoc, append_assoc) (sym (replaced-front (lay slots m.transit) (lay slots x.transit) (lays_of ms ++ rest) e))
lays-put (x ∷ ms) rest (suc i) m l =
    let front = lay slots x.transit in
    let e : 64 * suc i ≡ length front + 64 * i = omega (arith, length-lay slots x.transit) in
    rw (e, append_assoc, append_assoc, replaced-behind) (ap (λ (w : List ℕ). front ++ w) (lays-put ms rest i m (le_of_suc-le-suc l)))

-- one that keeps its tags leaves every word
lays-kept : (ms : List Member) (i : ℕ) (m : Member) → m.transit ≡ (get_or ms i blank).transit → lays_of (set ms i m) ≡ lays_of ms
unfolding lays_of
lays-kept [] i m e = refl
lays-kept (x ∷ ms) zero m e = cc
lays-kept (x ∷ ms) (suc i) m e = cc (lays-kept ms i m e)

module _ (x : Session) where
  pub state-at : (i : ℕ) → i < length x.members → get_or (state_of x).members i blank_record ≡ record_of (view x i)
  unfolding state_of
  state-at i l = grind (arith, common_steps, get_or-map record_of x.members i blank)

  pub state-rest : (k : ℕ) → k < 32 - length x.members → get_or (state_of x).members (length x.members + k) blank_record ≡ blank_record
  unfolding state_of
  state-rest k l = grind (arith, common_steps)

  pub state-count : (state_of x).count ≡ length x.members
  unfolding state_of
  state-count = refl

  pub state-length : length x.members ≤ 32 → length (state_of x).members ≡ 32
  unfolding state_of
  state-length l = grind (arith, common_steps)

  pub slab-at : (old : List ℕ) (i : ℕ) → i < length x.members → stretch i (slab_of x old) ≡ lay slots (view x i).transit
  unfolding slab_of
  slab-at old i l = lays-at x.members (drop (64 * length x.members) old) i l

  pub slab-length : (old : List ℕ) → 64 * length x.members ≤ length old → length (slab_of x old) ≡ length old
  unfolding slab_of
  slab-length old l = grind (arith, common_steps, length-lays x.members)

  -- one member replaced
  pub state-put : (i : ℕ) (m : Member) → i < length x.members
      → state_of (put x i m) ≡ record { members = set (state_of x).members i (record_of m); count = (state_of x).count; identity = (state_of x).identity; cause = (state_of x).cause; code = (state_of x).code }
  unfolding state_of
  state-put i m l =
      let rest = replicate (32 - length x.members) blank_record in
      rw (length-set, map-set) (cc (set-append_left (map record_of x.members) rest i (record_of m) (omega (arith, length-map x.members record_of))))

  pub slab-put : (old : List ℕ) (i : ℕ) (m : Member) → i < length x.members → slab_of (put x i m) old ≡ replaced (64 * i) (lay slots m.transit) (slab_of x old)
  unfolding slab_of
  slab-put old i m l = rw length-set (lays-put x.members (drop (64 * length x.members) old) i m l)

  pub slab-kept : (old : List ℕ) (i : ℕ) (m : Member) → m.transit ≡ (view x i).transit → slab_of (put x i m) old ≡ slab_of x old
  unfolding slab_of
  slab-kept old i m e = rw (length-set, lays-kept x.members i m e)

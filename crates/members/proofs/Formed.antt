-- Well formed as a test of words (14) and as a session: each says the other, and nothing is lost on the way.
-- Assumes nothing.
use Prim.Native.Nat.{ℕ, ◌+◌, ◌*◌, ◌-◌, ◌≤◌, ◌<◌}
use mathlib.Core.Path.{◌≡◌, refl, sym, ap, subst, ◌∙◌}
use mathlib.Core.Bool.{true}
use mathlib.Core.List.{List}
use native.Mathlib.Omega.{arith}
use Rattle.std.proofs.lemmas.Grind.{common_steps}
use lib.Dec.{eqb}
use lib.ListN.{length, get_or}
use lib.Seq.{ext_get_or}
use borrow.Author.Tests.{eqb-true, eq-eqb}
use Rattle.basis.specs.Parts.{part}
use Rattle.tags.specs.Tags.{top}
use Rattle.transit.specs.Words.{stretch, Laid as Laid-stretch}
use Rattle.transit.proofs.Lists.{both_true}
use Rattle.transit.proofs.Stretches.{stretch-length}
use Rattle.states.specs.declared.MemberState.{MemberState}
use Rattle.states.specs.declared.State.{State}
use Rattle.states.specs.Records.{blank_record}
use Rattle.states.specs.Sessions.{Member, Session, blank, or_never, view}
use Rattle.states.specs.Formed.{WellFormed, Sound}
use Rattle.rows.specs.Rows.{Laid, members, capacity}
use Rattle.rows.specs.Nets.{net_in}
use Rattle.members.specs.Codes.{member_of, members_from, session_of, record_of, state_of, slab_of, AllHold}
use Rattle.members.specs.Formed.{every, formed_record, formed_at, is_blank, blank_at, formed}
use Rattle.members.proofs.Typed.{Typed}
use Rattle.members.proofs.Records.{every-at, every_of, blank-is, blank-formed, record_holds, record_formed, record_back, member-formed, member_back}
use Rattle.members.proofs.Codes.{session-length, view-at, state-back, slab-back, length-members, members-at, member_at, state-at, state-rest, state-count, slab-at, slab-length}

-- the words of a part are no larger
part-bound : (n a : ℕ) (l : List ℕ) (t : ℕ) → ((k : ℕ) → get_or l k 0 ≤ t) → (k : ℕ) → get_or (part n a l) k 0 ≤ t
unfolding part
part-bound n a l t h k = grind (arith, common_steps, h)

-- ---- a state and a slab that pass
module _ (b : List ℕ) (laid : Laid b) (s : State) (w : List ℕ) (fits : 64 * members b ≤ length w) (h : formed (net_in b) s w ≡ true) where
  says : (eqb s.count (members b) ≡ true) × (every (formed_at (net_in b) s w) (members b) ≡ true) × (every (blank_at s (members b)) (32 - members b) ≡ true)
  unfolding formed net_in
  says = grind (arith, both_true)

  -- as many records as the plan has members
  pub formed-count : s.count ≡ members b
  formed-count = eqb-true s.count (members b) says.0

  record_at_lem : (i : ℕ) → i < members b → formed_record (capacity b i) (get_or s.members i blank_record) (stretch i w) ≡ true
  unfolding formed_at net_in
  record_at_lem i l = every-at (formed_at (net_in b) s w) (members b) i l says.1

  blank-at : (k : ℕ) → k < 32 - members b → get_or s.members (members b + k) blank_record ≡ blank_record
  unfolding blank_at
  blank-at k l = blank-is (get_or s.members (members b + k) blank_record) (every-at (blank_at s (members b)) (32 - members b) k l says.2)

  stretch-whole : (i : ℕ) → i < members b → length (stretch i w) ≡ 64
  stretch-whole i l = stretch-length i w (omega arith)

  -- every member's stretch holds its tags
  pub formed-holds : AllHold s w (members b)
  formed-holds = record { at = λ i l. record_holds (capacity b i) (get_or s.members i blank_record) (stretch i w) (laid.small i l) (stretch-whole i l) (record_at_lem i l) }

  pub formed-stretch : (i : ℕ) → i < members b
      → Laid-stretch (or_never (get_or s.members i blank_record).completed) (get_or s.members i blank_record).held (stretch i w) (view (session_of s w) i).transit
  formed-stretch i l =
      subst (λ (m : Member). Laid-stretch (or_never (get_or s.members i blank_record).completed) (get_or s.members i blank_record).held (stretch i w) m.transit)
      (sym (view-at s w i (omega (arith, formed-count)))) (formed-holds.at i l).laid

  -- what they stand for is a well-formed session
  pub formed-sound : Typed s → ((k : ℕ) → get_or w k 0 ≤ top) → Sound (net_in b) (session_of s w)
  unfolding net_in
  formed-sound typed words =
      record {
        count = session-length s w ∙ formed-count;
        each = λ i l.
            subst (WellFormed (capacity b i)) (sym (view-at s w i (omega (arith, formed-count))))
            (record_formed (capacity b i) (get_or s.members i blank_record) (stretch i w) (laid.small i l) (stretch-whole i l) (record_at_lem i l) (part-bound 64 (64 * i) w top words) (typed.small i));
      }

  -- and they are what that session is held as
  pub formed-state : length s.members ≡ 32 → state_of (session_of s w) ≡ s
  formed-state whole =
      let few = laid.few-members in
      let same = formed-count in
      state-back s w whole (omega arith)
      (λ j l. record_back (or_never (get_or s.members j blank_record).completed) (get_or s.members j blank_record) (stretch j w) (formed-holds.at j (omega arith)))
      (λ k l. ap (λ (n : ℕ). get_or s.members (n + k) blank_record) same ∙ blank-at k (omega arith))

  pub formed-slab : slab_of (session_of s w) w ≡ w
  formed-slab =
      let same = formed-count in
      slab-back s w (omega arith) (λ j l. sym (formed-holds.at j (omega arith)).laid.words)

-- ---- a well-formed session, written
module _ (b : List ℕ) (laid : Laid b) (x : Session) (sound : Sound (net_in b) x) where
  pub sound-count : length x.members ≡ members b
  unfolding net_in
  sound-count = sound.count

  well : (i : ℕ) → i < members b → WellFormed (capacity b i) (view x i)
  unfolding net_in
  well i l = sound.each i l

  passes_at : (w : List ℕ) (i : ℕ) → i < members b → formed_at (net_in b) (state_of x) (slab_of x w) i ≡ true
  unfolding formed_at net_in
  passes_at w i l =
      let same = sound-count in
      ap (λ (r : MemberState). formed_record (capacity b i) r (stretch i (slab_of x w))) (state-at x i (omega arith))
      ∙ ap (formed_record (capacity b i) (record_of (view x i))) (slab-at x w i (omega arith))
      ∙ member-formed (capacity b i) (view x i) (laid.small i l) (well i l)

  blank-past : (k : ℕ) → k < 32 - members b → blank_at (state_of x) (members b) k ≡ true
  unfolding blank_at
  blank-past k l =
      let same = sound-count in
      ap (λ (n : ℕ). is_blank (get_or (state_of x).members (n + k) blank_record)) (sym same) ∙ ap is_blank (state-rest x k (omega arith)) ∙ blank-formed

  -- it passes
  pub sound-formed : (w : List ℕ) → formed (net_in b) (state_of x) (slab_of x w) ≡ true
  unfolding formed net_in
  sound-formed w =
      rw (eq-eqb (state_of x).count (members b) (state-count x ∙ sound-count), every_of (formed_at (net_in b) (state_of x) (slab_of x w)) (members b) (passes_at w), every_of (blank_at (state_of x) (members b)) (32 - members b) blank-past)
      refl

  -- and stands for the same session
  pub sound-session : (w : List ℕ) → session_of (state_of x) (slab_of x w) ≡ x
  unfolding session_of state_of
  sound-session w = ap (λ (ms : List Member). record { members = ms; identity = x.identity; cause = x.cause; code = x.code }) same
    where
      rs : List MemberState
      rs = (state_of x).members

      at : (i : ℕ) → i < length x.members → member_at rs (slab_of x w) i ≡ view x i
      at i l =
          let count = sound-count in
          ap (λ (r : MemberState). member_of r (stretch i (slab_of x w))) (state-at x i l) ∙ ap (member_of (record_of (view x i))) (slab-at x w i l)
          ∙ member_back (capacity b i) (view x i) (laid.small i (omega arith)) (well i (omega arith))

      same : members_from rs (slab_of x w) 0 (length x.members) ≡ x.members
      same =
          let long = length-members rs (slab_of x w) 0 (length x.members) in
          ext_get_or blank (members_from rs (slab_of x w) 0 (length x.members)) x.members long
          (λ i l.
          let e : 0 + i ≡ i = omega arith in
          members-at rs (slab_of x w) 0 (length x.members) i (omega arith) ∙ ap (member_at rs (slab_of x w)) e ∙ at i (omega arith))

  pub sound-holds : (w : List ℕ) → 64 * members b ≤ length w → AllHold (state_of x) (slab_of x w) (members b)
  sound-holds w fits =
      let same = sound-count in
      let long = slab-length x w (omega arith) in
      formed-holds b laid (state_of x) (slab_of x w) (omega arith) (sound-formed w)

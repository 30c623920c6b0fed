-- A state and a slab that opening has made.
-- Assumes nothing.
use Prim.Native.Nat.{ℕ, zero, suc, ◌+◌, ◌*◌, ◌-◌, ◌≤◌}
use native.Mathlib.Omega.{arith}
use mathlib.Core.Path.{◌≡◌, refl, sym, ap, ◌∙◌}
use Rattle.basis.proofs.Parts.{replaced-none}
use Rattle.states.specs.declared.State.{State}
use Rattle.states.specs.Steps.{start}
use Rattle.passes.specs.Ties.{all_words}
use Rattle.steps.specs.Steps.{Leaves}
use mathlib.Core.List.{List, [], ◌∷◌, ◌++◌, map}
use lib.ListN.{length, drop, replicate, length-replicate, replicate-append-replicate}
use Rattle.transit.specs.Words.{lay}
use Rattle.states.specs.declared.MemberState.{MemberState}
use Rattle.states.specs.Records.{blank_record, fresh_state}
use Rattle.states.specs.Sessions.{blank, fresh}
use Rattle.members.specs.Codes.{record_of, lays_of, state_of, slab_of}

blanks : (n : ℕ) → map record_of (replicate n blank) ≡ replicate n blank_record
blanks zero = refl
blanks (suc n) = ap (λ (rs : List MemberState). blank_record ∷ rs) (blanks n)

pub fresh-state : (n identity : ℕ) → n ≤ 32 → state_of (fresh n identity) ≡ fresh_state n identity
unfolding state_of
fresh-state n identity l =
    let e : length (replicate n blank) ≡ n = length-replicate n blank in
    let f : n + (32 - n) ≡ 32 = omega arith in
    rw (e, blanks n, replicate-append-replicate n (32 - n) blank_record, f) refl

blank-lay : (k : ℕ) → lay k [] ≡ replicate (2 * k) 0
unfolding lay
blank-lay zero = refl
blank-lay (suc k) = let e : 2 * suc k ≡ suc (suc (2 * k)) = omega arith in rw (e, blank-lay k) refl

blank-lays : (n : ℕ) → lays_of (replicate n blank) ≡ replicate (64 * n) 0
unfolding lays_of
blank-lays zero = refl
blank-lays (suc n) = let e : 64 * suc n ≡ 64 + 64 * n = omega arith in rw (e, ← replicate-append-replicate {A = ℕ} 64 (64 * n) 0, blank-lay 32, blank-lays n) refl

pub fresh-slab : (n identity : ℕ) (old : List ℕ) → slab_of (fresh n identity) old ≡ replicate (64 * n) 0 ++ drop (64 * n) old
unfolding slab_of
fresh-slab n identity old = rw (length-replicate n blank, blank-lays n) refl

-- opening leaves the fresh session
pub begun : (n m identity : ℕ) (s : State) (held w : List ℕ) → n ≡ m → s ≡ state_of (fresh n identity) → held ≡ slab_of (fresh n identity) w → Leaves (start (fresh m identity)) (record { state = s; sent = 0 }) held [] w []
unfolding all_words
begun n m identity s held w e f g =
    record {
      shows = record { state = f ∙ ap (λ (k : ℕ). state_of (fresh k identity)) e; count = refl; words = sym (replaced-none 0 []) };
      slab = g ∙ ap (λ (k : ℕ). slab_of (fresh k identity) w) e;
    }

-- A test of every member, as the code makes it over records and positions.
-- Assumes nothing.
use Rattle.std.proofs.Common.{◌≡◌, ℕ, zero, suc, ◌+◌, ◌-◌, ◌&&◌, length, get_or, take, drop, Bool, true, false, refl, sym, ap, ◌∙◌, arith, length-drop}
use lib.Seq.{get_or-drop}
use Rattle.std.specs.List.{list_all, range_with_len}
use Rattle.basis.specs.Choice.{both}
use Rattle.states.specs.declared.State.{State}
use Rattle.states.specs.Records.{blank_record}
use Rattle.states.specs.Steps.{every}
use Rattle.states.proofs.Every.{every-all}
use Rattle.members.specs.Formed.{is_blank, blank_at}

every-same : (f g : ℕ → Bool) (n : ℕ) → ((k : ℕ) → f k ≡ g k) → every f n ≡ every g n
unfolding every
every-same f g zero h = refl
every-same f g (suc n) h = rw (every-same f g n h, h n) refl

-- the records from n on
pub every-rest : (s : State) (n : ℕ) → length s.members ≡ 32 → list_all is_blank (take (32 - n) (drop n s.members)) ≡ every (blank_at s n) (32 - n)
unfolding blank_at
every-rest s n whole =
    every-all is_blank (drop n s.members) blank_record (32 - n) (omega (arith, length-drop n s.members))
    ∙ every-same (λ k. is_blank (get_or (drop n s.members) k blank_record)) (blank_at s n) (32 - n) (λ k. ap is_blank (get_or-drop n s.members k blank_record))

-- the first of them apart
every-first : (f : ℕ → Bool) (n : ℕ) → every f (suc n) ≡ (f 0 && every (λ k. f (suc k)) n)
unfolding every
every-first f zero = both-and (f 0)
  where
    both-and : (b : Bool) → both true b ≡ (b && true)
    both-and true = refl
    both-and false = refl
every-first f (suc n) = rw (every-first f n) (both-and (f 0) (every (λ k. f (suc k)) n) (f (suc n)))
  where
    both-and : (a b c : Bool) → both (a && b) c ≡ (a && both b c)
    both-and true b c = refl
    both-and false b c = refl

from-place : (f : ℕ → Bool) (a n : ℕ) → list_all f (range_with_len a n) ≡ every (λ k. f (a + k)) n
unfolding every
from-place f a zero = refl
from-place f a (suc n) =
    let here : a ≡ a + 0 = omega arith in
    ap (λ (b : Bool). f a && b) (from-place f (a + 1) n ∙ every-same (λ k. f (a + 1 + k)) (λ k. f (a + suc k)) n (λ k. let e : a + 1 + k ≡ a + suc k = omega arith in ap f e))
    ∙ ap (λ (i : ℕ). f i && every (λ k. f (a + suc k)) n) here
    ∙ sym (every-first (λ k. f (a + k)) n)

-- the first n positions
pub every-range : (f : ℕ → Bool) (n : ℕ) → list_all f (range_with_len 0 n) ≡ every f n
every-range f n = from-place f 0 n ∙ every-same (λ k. f (0 + k)) f n (λ k. let e : 0 + k ≡ k = omega arith in ap f e)

-- A test of every member, as the code makes it over a list of records.
-- Assumes nothing.
use Rattle.std.proofs.Common.{◌≡◌, ◌≤◌, ◌<◌, ℕ, zero, suc, length, get_or, take, Bool, List, refl, ◌∙◌, arith, ap, add-one}
use Rattle.std.specs.List.{list_all}
use Rattle.std.proofs.lemmas.List.Folds.{list_all_more}
use Rattle.basis.specs.Choice.{both}
use Rattle.transit.proofs.Checks.{both-and}
use Rattle.states.specs.Steps.{every}

-- over the first n of l
pub every-all : {A : Type 0} (p : A → Bool) (l : List A) (d : A) (n : ℕ) → n ≤ length l → list_all p (take n l) ≡ every (λ k. p (get_or l k d)) n
unfolding every
every-all p l d zero h = refl
every-all p l d (suc n) h =
    let q : n < length l = omega arith in
    rw (← add-one n) (list_all_more p l n d q ∙ both-and (list_all p (take n l)) (p (get_or l n d)) ∙ ap (λ (b : Bool). both b (p (get_or l n d))) (every-all p l d n (omega arith)))

-- tests that agree below n
pub every-same : (f g : ℕ → Bool) (n : ℕ) → ((k : ℕ) → k < n → f k ≡ g k) → every f n ≡ every g n
unfolding every
every-same f g zero h = refl
every-same f g (suc n) h = rw (every-same f g n (λ k l. h k (omega arith)), h n (omega arith)) refl

-- A tag looked for among those of a stretch, slot by slot.
-- Assumes nothing.
use Rattle.std.proofs.Common.{◌≡◌, ◌+◌, ◌*◌, ◌≤◌, ℕ, zero, suc, Bool, true, false, List, length, drop, refl, sym, ap, ◌∙◌, arith}
use Rattle.std.specs.Prelude.{◌||◌}
use Rattle.std.specs.List.{list_any, range_with_len}
use Rattle.basis.specs.Choice.{either}
use Rattle.tags.specs.declared.Tag.{Tag}
use Rattle.tags.specs.Tags.{same_tag}
use Rattle.transit.specs.Tags.{holds}
use Rattle.transit.specs.Words.{slot_at, tags_of}
use Rattle.transit.proofs.Words.{next-slot, no_slot}

or-either : (a b : Bool) → (a || b) ≡ either a b
or-either true b = refl
or-either false b = refl

-- the slots from k on, of n
pub any-holds : (t : Tag) (ws : List ℕ) (n k m : ℕ) → k + m ≡ n → 2 * n ≤ length ws → list_any (λ i. same_tag t (slot_at i ws)) (range_with_len k m) ≡ holds t (drop k (tags_of n ws))
unfolding holds
any-holds t ws n k zero e l = sym (ap (holds t) (no_slot n k ws (omega arith) l))
any-holds t ws n k (suc m) e l =
    or-either (same_tag t (slot_at k ws)) (list_any (λ i. same_tag t (slot_at i ws)) (range_with_len (k + 1) m))
    ∙ ap (either (same_tag t (slot_at k ws))) (any-holds t ws n (k + 1) m (omega arith) l)
    ∙ sym (ap (holds t) (next-slot n k ws (omega arith) l))

-- words that are the same hold the same
pub lent_holds : (t : Tag) (n : ℕ) (xs ys : List ℕ) (r : Bool) → r ≡ holds t (tags_of n xs) → xs ≡ ys → r ≡ holds t (tags_of n ys)
lent_holds t n xs ys r e q = e ∙ ap (λ (ws : List ℕ). holds t (tags_of n ws)) q

-- The steps of the checks of a stretch, and its first tag.
-- Assumes nothing.
use Prim.Native.Nat.{ℕ, suc, ◌+◌, ◌*◌, ◌<◌, ◌≤◌}
use native.Mathlib.Omega.{arith}
use mathlib.Core.Path.{◌≡◌, refl, ap, ◌∙◌}
use mathlib.Core.Bool.{Bool, true, false}
use mathlib.Core.List.{List, [], ◌∷◌}
use lib.Dec.{eqb}
use Rattle.std.specs.Prelude.{◌&&◌}
use Rattle.std.specs.List.{list_all}
use lib.ListN.{length, drop}
use Rattle.basis.specs.Choice.{both}
use Rattle.tags.specs.declared.Tag.{Tag}
use Rattle.tags.specs.declared.Tag.TheVariants.{Never, Finite, Forever}
use Rattle.tags.specs.Tags.{tag_before}
use Rattle.transit.specs.Tags.{within, ascending, first_of, Finites}
use Rattle.transit.specs.Words.{lay, slot_at, tags_of, Laid, blank}
use Rattle.transit.proofs.Words.{next-slot, no_slot}

-- ---- tags in order: the slot at i, and the end
pub ascending-step : (last x : Tag) (n i : ℕ) (ws : List ℕ) → x ≡ slot_at i ws → i < n → 2 * n ≤ length ws
    → ascending last (drop i (tags_of n ws)) ≡ both (tag_before last x) (both (within x) (ascending x (drop (i + 1) (tags_of n ws))))
unfolding ascending
ascending-step last x n i ws e h l = rw (next-slot n i ws h l, e)

pub ascending-end : (last : Tag) (n i : ℕ) (ws : List ℕ) → n ≤ i → 2 * n ≤ length ws → ascending last (drop i (tags_of n ws)) ≡ true
unfolding ascending
ascending-end last n i ws h l = rw (no_slot n i ws h l)

-- ---- zeros
pub both-and : (a b : Bool) → (a && b) ≡ both a b
both-and true b = refl
both-and false b = refl

pub blank-all : (ws : List ℕ) → list_all (λ w. eqb w 0) ws ≡ blank ws
unfolding blank
blank-all [] = refl
blank-all (w ∷ ws) = both-and (eqb w 0) (list_all (λ v. eqb v 0) ws) ∙ ap (both (eqb w 0)) (blank-all ws)

-- ---- the first tag
pub first-none : (lo : Tag) (n : ℕ) (ws : List ℕ) (ts : List Tag) → Laid lo n ws ts → n ≡ 0 → Forever ≡ first_of ts
first-none lo n ws [] h e = refl
first-none lo n ws (t ∷ ts) h e = absurd (omega (arith, h.count))

first_slot : (k : ℕ) (ts : List Tag) → 0 < length ts → Finites ts → slot_at 0 (lay (suc k) ts) ≡ first_of ts
unfolding lay
first_slot k [] l f = absurd (omega arith)
first_slot k (Never ∷ ts) l f = absurd f.0
first_slot k (Finite o m ∷ ts) l f = refl
first_slot k (Forever ∷ ts) l f = absurd f.0

pub first_some : (lo : Tag) (n : ℕ) (ws : List ℕ) (ts : List Tag) → Laid lo n ws ts → (n ≡ 0 → ⊥) → slot_at 0 ws ≡ first_of ts
first_some lo n ws ts h e = ap (slot_at 0) h.words ∙ first_slot 31 ts (omega (arith, h.count, e)) h.finite

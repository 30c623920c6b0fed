-- Laws of hex.
-- Assumes nothing.
use Rattle.std.proofs.Common.{ℕ, zero, suc, ◌≡◌, ◌+◌, ◌*◌, ◌%◌, ◌≤◌, ◌<◌, List, [], ◌∷◌, length, get_or, set, arith, refl, ap, sym, ◌∙◌, add-one}
use Rattle.std.proofs.Math.Seq.{paste, paste-suc}
use Rattle.text.specs.Hex.{nibble_of, bytes_in}

-- 2n digits say n bytes
pub bytes-enough : (w : List ℕ) (n : ℕ) → 2 * n ≤ length w → n ≤ length (bytes_in w)
unfolding bytes_in
bytes-enough w zero h = omega arith
bytes-enough [] (suc n) h = absurd (omega arith)
bytes-enough (a ∷ []) (suc n) h = absurd (omega arith)
bytes-enough (a ∷ b ∷ w) (suc n) h =
    let k : n ≤ length (bytes_in w) = bytes-enough w n (omega arith) in omega arith

-- byte j is what digits 2j and 2j + 1 say
pub bytes-at : (w : List ℕ) (j : ℕ) → 2 * j + 1 < length w → get_or (bytes_in w) j 0 ≡ 16 * (nibble_of (get_or w (2 * j) 0) % 16) + nibble_of (get_or w (2 * j + 1) 0) % 16
unfolding bytes_in
bytes-at [] j h = absurd (omega arith)
bytes-at (a ∷ []) j h = absurd (omega arith)
bytes-at (a ∷ b ∷ w) zero h = refl
bytes-at (a ∷ b ∷ w) (suc j) h =
    let e : 2 * suc j ≡ suc (suc (2 * j)) = omega arith in
    let f : 2 * suc j + 1 ≡ suc (suc (2 * j + 1)) = omega arith in
    rw (f, e) (bytes-at w j (omega arith))

-- one more byte in front
pub paste-front : (d s : List ℕ) (j v : ℕ) → j < length d → j < length s → v ≡ get_or s j 0 → set (paste d 0 s j) j v ≡ paste d 0 s (j + 1)
paste-front d s j v h k e =
    let f : j ≡ 0 + j = omega arith in
    ap (λ (x : ℕ). set (paste d 0 s j) j x) e
    ∙ ap (λ (n : ℕ). set (paste d 0 s j) n (get_or s j 0)) f
    ∙ paste-suc d 0 s j 0 (omega arith) k
    ∙ ap (paste d 0 s) (sym (add-one j))

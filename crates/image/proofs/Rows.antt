-- The rows: how long each is, and which stand where.
-- Assumes nothing.
use mathlib.Core.Path.{◌≡◌}
use mathlib.Core.List.{List, [], ◌∷◌, ◌++◌}
use Prim.Native.Nat.{ℕ, ◌*◌}
use native.Mathlib.Omega.{arith}
use lib.ListN.{length, get_or, length-append}
use Rattle.basis.specs.Numbers.{bytes}
use Rattle.basis.proofs.Numbers.{length-bytes}
use Rattle.delays.specs.Lists.{Source}
use Rattle.image.specs.Image.{words, source_row, target_row, header_of}
use Rattle.image.specs.Writing.{member_bytes, member_in, edge_bytes, summed, source_count, target_count}
use Rattle.image.proofs.Tables.{length-laid}

pub length-words : (ws : List ℕ) → length (words ws) ≡ 4 * length ws
length-words ws = length-laid (bytes 4) 4 (length-bytes 4) ws

pub length-source : (s : Source) → length (source_row s) ≡ 16
unfolding source_row
length-source s = omega (arith, length-append (words (s.source ∷ 0 ∷ [])) (bytes 8 s.delay), length-words (s.source ∷ 0 ∷ []), length-bytes 8 s.delay)

pub length-target : (t : ℕ) → length (target_row t) ≡ 4
unfolding target_row
length-target t = length-bytes 4 t

pub length-member : (id capacity d dc t tc w wc : ℕ) → length (member_bytes id capacity d dc t tc w wc) ≡ 40
unfolding member_bytes
length-member id capacity d dc t tc w wc =
    let ws : List ℕ = capacity ∷ d ∷ dc ∷ t ∷ tc ∷ w ∷ wc ∷ 0 ∷ [] in
    omega (arith, length-append (bytes 8 id) (words ws), length-bytes 8 id, length-words ws)

pub length-member_in : (ids cs dk mk : List ℕ) (n i : ℕ) → length (member_in ids cs dk mk n i) ≡ 40
unfolding member_in
length-member_in ids cs dk mk n i =
    length-member (get_or ids i 0) (get_or cs i 0)
    (summed (source_count dk n) i) (source_count dk n i)
    (summed (source_count mk n) i) (source_count mk n i)
    (summed (target_count mk n) i) (target_count mk n i)

pub length-header : (n e d t w : ℕ) → length (header_of n e d t w) ≡ 48
unfolding header_of
length-header n e d t w = simp length-words

pub length-edge : (id source target delay : ℕ) → length (edge_bytes id source target delay) ≡ 24
unfolding edge_bytes
length-edge id source target delay =
    let ws : List ℕ = source ∷ target ∷ [] in
    omega (arith, length-append (bytes 8 id) (words ws ++ bytes 8 delay), length-append (words ws) (bytes 8 delay), length-bytes 8 id, length-words ws, length-bytes 8 delay)

-- Writers one after another, over whatever each one writes.
-- Assumes nothing.
use mathlib.Core.Path.{◌≡◌, sym, ap, ◌∙◌}
use mathlib.Core.List.{List, [], ◌∷◌, ◌++◌}
use Prim.Native.Nat.{ℕ, zero, suc, ◌+◌, ◌<◌, ◌≤◌}
use native.Mathlib.Omega.{arith}
use native.Mathlib.Nat.{add-zero}
use lib.ListN.{length, get_or, length-append}
use Rattle.basis.proofs.Parts.{replaced-none, length-replaced, replaced-join}
use Rattle.image.specs.Image.{gathered}
use Rattle.image.specs.Writing.{Put, Room, Small}
use Rattle.image.proofs.Tables.{gathered-more, gathered-room}

-- nothing written yet
pub put-none : (at : ℕ) (l : List ℕ) → Put at [] l l at
put-none at l = record { placed = sym (replaced-none at l); past = omega (arith, add-zero at) }

-- the length stays
pub put-length : {at : ℕ} {xs l l' : List ℕ} {a : ℕ} → Room at xs l → Put at xs l l' a → length l' ≡ length l
put-length {at} {xs} {l} room p = ap length p.placed ∙ length-replaced at xs l room

-- one after another
pub put_then : {at : ℕ} {xs ys l l' l'' : List ℕ} {a b : ℕ} → at ≤ length l → Put at xs l l' a → Put a ys l' l'' b → Put at (xs ++ ys) l l'' b
put_then {at} {xs} {ys} {l} room p q =
    record {
      placed = q.placed ∙ rw (p.past, p.placed) (replaced-join at xs ys l room);
      past = omega (arith, p.past, q.past, length-append xs ys);
    }

-- what comes next has room
pub put_next : {at : ℕ} {xs l l' : List ℕ} {a : ℕ} → (k : ℕ) → at + length xs + k ≤ length l → Put at xs l l' a → a + k ≤ length l'
put_next {at} {xs} {l} {l'} {a} k h p =
    let same : length l' ≡ length l = put-length (omega arith) p in
    omega (arith, p.past)

-- two parts with room: the first has it, and the second behind the first
pub room-front : (at : ℕ) (xs ys l : List ℕ) → Room at (xs ++ ys) l → Room at xs l
room-front at xs ys l r = omega (arith, length-append xs ys)

pub room-rest : {at : ℕ} {xs l l' : List ℕ} {a : ℕ} → (ys : List ℕ) → Room at (xs ++ ys) l → Put at xs l l' a → Room a ys l'
room-rest {at} {xs} {l} {l'} {a} ys r p = put_next (length ys) (omega (arith, length-append xs ys)) p

pub put_both : {at : ℕ} {xs ys l l' l'' : List ℕ} {a b : ℕ} → Room at (xs ++ ys) l → Put at xs l l' a → Put a ys l' l'' b → Put at (xs ++ ys) l l'' b
put_both r p q = put_then (omega arith) p q

-- three parts
pub room-middle : {at : ℕ} {xs l l' : List ℕ} {a : ℕ} → (ys zs : List ℕ) → Room at (xs ++ (ys ++ zs)) l → Put at xs l l' a → Room a ys l'
room-middle {l' = l'} {a = a} ys zs r p = room-front a ys zs l' (room-rest (ys ++ zs) r p)

pub room-last : {at : ℕ} {xs ys l l' l'' : List ℕ} {a b : ℕ} → (zs : List ℕ) → Room at (xs ++ (ys ++ zs)) l → Put at xs l l' a → Put a ys l' l'' b → Room b zs l''
room-last {ys = ys} zs r p q = room-rest zs (room-rest (ys ++ zs) r p) q

pub put_three : {at : ℕ} {xs ys zs l l' l'' l''' : List ℕ} {a b d : ℕ} → Room at (xs ++ (ys ++ zs)) l → Put at xs l l' a → Put a ys l' l'' b → Put b zs l'' l''' d → Put at (xs ++ (ys ++ zs)) l l''' d
put_three {ys = ys} {zs = zs} r p q s = put_both r p (put_both (room-rest (ys ++ zs) r p) q s)

-- a loop of writers: what places 0 to k - 1 of n write stands there, and all of it has room
pub record Going (at : ℕ) (f : ℕ → List ℕ) (n k : ℕ) (before after : List ℕ) (next : ℕ) : Type 0 where
  pub less : k ≤ n
  pub room : Room at (gathered f n) before
  pub put : Put at (gathered f k) before after next

pub go-first : (at : ℕ) (f : ℕ → List ℕ) (n : ℕ) (l : List ℕ) → Room at (gathered f n) l → Going at f n 0 l l at
unfolding gathered
go-first at f n l r = record { less = omega arith; room = r; put = put-none at l }

-- the next one has room
pub go-room : {at : ℕ} {f : ℕ → List ℕ} {n k : ℕ} {l l' : List ℕ} {a : ℕ} → Going at f n k l l' a → k < n → Room a (f k) l'
go-room {at} {f} {n} {k} {l} {l'} {a} g h =
    let fits : length (gathered f k) + length (f k) ≤ length (gathered f n) = gathered-room f k n h in
    let past : a ≡ at + length (gathered f k) = g.put.past in
    let all : at + length (gathered f n) ≤ length l = g.room in
    let same : length l' ≡ length l = put-length (omega arith) g.put in
    omega arith

-- and is written
pub go_on : {at : ℕ} {f : ℕ → List ℕ} {n k : ℕ} {l l' l'' : List ℕ} {a b : ℕ} → Going at f n k l l' a → k < n → Put a (f k) l' l'' b → Going at f n (k + 1) l l'' b
go_on {at} {f} {n} {k} {l} {l'} {l''} {a} {b} g h q =
    let all : at + length (gathered f n) ≤ length l = g.room in
    record { less = omega arith; room = g.room; put = rw (gathered-more f k) (put_then (omega arith) g.put q) }

pub go-length : {at : ℕ} {f : ℕ → List ℕ} {n k : ℕ} {l l' : List ℕ} {a : ℕ} → Going at f n k l l' a → n ≤ k → length l' ≡ length l
go-length {at} {f} {n} {k} {l} {l'} {a} g h =
    let end : k ≡ n = omega (arith, g.less) in
    put-length (rw end g.room) g.put

pub go-last : {at : ℕ} {f : ℕ → List ℕ} {n k : ℕ} {l l' : List ℕ} {a : ℕ} → Going at f n k l l' a → n ≤ k → Put at (gathered f n) l l' a
go-last {at} {f} {n} {k} {l} {l'} {a} g h =
    let end : k ≡ n = omega (arith, g.less) in
    rw end at g.put

-- a number that fits among those that do
pub small_at : (ws : List ℕ) (k : ℕ) → Small ws → k < length ws → get_or ws k 0 < 4294967296
small_at [] k s h = absurd (omega arith)
small_at (x ∷ xs) zero s h = s.0
small_at (x ∷ xs) (suc k) s h = small_at xs k s.1 (omega arith)

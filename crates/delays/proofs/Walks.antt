-- `via` is the least over walks.
-- Assumes nothing.
use mathlib.Core.Path.{◌≡◌, subst, ap, ◌∙◌}
use mathlib.Core.Logic.{◌⊎◌, ⊎_elim, inl, inr, ◌↔◌}
use mathlib.Core.List.{List}
use Prim.Native.Nat.{ℕ, zero, suc, ◌+◌, ◌<◌, ◌≤◌, min}
use native.Mathlib.Omega.{arith}
use native.Mathlib.Nat.{add_assoc, eq-or-lt_of_le, le_of_suc-le-suc}
use native.Mathlib.Decide.{dec_le, ℕ_discrete}
use borrow.Author.Tests.{lt-ltb, le-ltb, le-leb, lt-leb, eq-eqb, ne_eqb}
use lib.ListN.{get_or}
use Rattle.delays.specs.declared.Reach.{Reach}
use Rattle.delays.specs.declared.Reach.TheVariants.{At, TooFar, None}
use Rattle.delays.specs.Graph.{far, plus, Edge, Walk, last, then, next, via, cost, direct, reach_of, min_delay}

-- a walk whose inner members are below k
pub data Inner (E : ℕ → ℕ → ℕ → Type 0) (k : ℕ) : ℕ → ℕ → ℕ → Type 0 where
  one : {s t d : ℕ} → E s t d → Inner E k s t d
  step : {s m t d e : ℕ} → E s m d → m < k → Inner E k m t e → Inner E k s t (d + e)

pub data Split (E : ℕ → ℕ → ℕ → Type 0) (k s t d : ℕ) : Type 0 where
  whole : {a : ℕ} → Inner E k s t a → a ≤ d → Split E k s t d
  parts : {a b : ℕ} → Inner E k s k a → Inner E k k t b → a + b ≤ d → Split E k s t d

-- v is the least of the sums that W holds, as a number with `far` and `none`
pub record Least (W : ℕ → Type 0) (v : ℕ) : Type 0 where
  pub low : (d : ℕ) → W d → v ≤ min d far
  pub met : v ≤ far → (d : ℕ) × W d × (min d far ≡ v)

plus-near : (a b : ℕ) → a ≤ far → b ≤ far → plus a b ≡ min (a + b) far
unfolding plus
plus-near a b p q = omega arith

plus-over : (a b : ℕ) → (a ≤ plus a b) × (b ≤ plus a b)
unfolding plus
plus-over a b = omega arith

pub le-or-lt : (a b : ℕ) → (a ≤ b) ⊎ (b < a)
le-or-lt a b = go (dec_le a b)
  where
    go : Dec (a ≤ b) → (a ≤ b) ⊎ (b < a)
    go (yes h) = inl h
    go (no h) = inr (omega arith)

module _ (E : ℕ → ℕ → ℕ → Type 0) where
  join : {k s m t a b : ℕ} → Inner E k s m a → m < k → Inner E k m t b → Inner E k s t (a + b)
  join (one x) h w = step x h w
  join (step x l v) h w = rw add_assoc (step x l (join v h w))

  more : {k s t d : ℕ} → Inner E k s t d → Inner E (suc k) s t d
  more (one x) = one x
  more (step x l w) = step x (omega arith) (more w)

  below : {k s m t e d : ℕ} → E s m e → m < k → Split E k m t d → Split E k s t (e + d)
  below x l (whole w h) = whole (step x l w) (omega arith)
  below x l (parts p q h) = parts (step x l p) q (omega arith)

  meet : {k s m t e d : ℕ} → E s m e → m ≡ k → Split E k m t d → Split E k s t (e + d)
  meet {k} {s} {m} {t} {e} x q (whole {a = a} w h) =
      parts (one (subst (λ (z : ℕ). E s z e) q x)) (subst (λ (z : ℕ). Inner E k z t a) q w) (omega arith)
  meet {k} {s} {m} {t} {e} x q (parts u v h) = parts (one (subst (λ (z : ℕ). E s z e) q x)) v (omega arith)

  split : {k s t d : ℕ} → Inner E (suc k) s t d → Split E k s t d
  split (one x) = whole (one x) (omega arith)
  split (step x l w) =
      ⊎_elim (λ q. meet x q (split w)) (λ h. below x h (split w)) (eq-or-lt_of_le (le_of_suc-le-suc l))

  least-next : (k s t x a b : ℕ) → Least (Inner E k s t) x → Least (Inner E k s k) a → Least (Inner E k k t) b → Least (Inner E (suc k) s t) (min x (plus a b))
  least-next k s t x a b L A B = record { low = λ d w. low d (split w); met = λ f. met f (le-or-lt x (plus a b)) }
    where
      low : (d : ℕ) → Split E k s t d → min x (plus a b) ≤ min d far
      low d (whole {a = y} w h) = omega (arith, L.low y w)
      low d (parts {a = y} {b = z} u v h) =
          omega (arith, A.low y u, B.low z v, plus-near a b (omega (arith, A.low y u)) (omega (arith, B.low z v)))

      met : min x (plus a b) ≤ far → (x ≤ plus a b) ⊎ (plus a b < x) → (d : ℕ) × Inner E (suc k) s t d × (min d far ≡ min x (plus a b))
      met f (inl h) = let u = L.met (omega arith) in (u.0, more u.1, omega (arith, u.2))
      met f (inr h) =
          let p : a ≤ far = omega (arith, plus-over a b) in
          let q : b ≤ far = omega (arith, plus-over a b) in
          let u = A.met p in
          let v = B.met q in
          (u.0 + v.0, join (more u.1) (omega arith) (more v.1), omega (arith, u.2, v.2, plus-near a b p q))

  -- the least over walks through members below k, for each k
  pub least-via : (g : ℕ → ℕ → ℕ) → ((s t : ℕ) → Least (E s t) (g s t)) → (k s t : ℕ) → Least (Inner E k s t) (via g k s t)
  unfolding via next
  least-via g base zero s t =
      record {
        low = λ d w. edge d w;
        met = λ f. (((base s t).met f).0, one ((base s t).met f).1, ((base s t).met f).2);
      }
    where
      edge : (d : ℕ) → Inner E zero s t d → g s t ≤ min d far
      edge d (one x) = (base s t).low d x
      edge d (step x l w) = absurd (omega arith)
  least-via g base (suc k) s t =
      least-next k s t (via g k s t) (via g k s k) (via g k k t) (least-via g base k s t) (least-via g base k s k) (least-via g base k k t)

  inner : (n : ℕ) → ((s t d : ℕ) → E s t d → (s < n) × (t < n)) → {s t d : ℕ} → Walk E s t d → Inner E n s t d
  inner n small (last x) = one x
  inner n small (then x w) = step x (small _ _ _ x).1 (inner n small w)

  outer : {n s t d : ℕ} → Inner E n s t d → Walk E s t d
  outer (one x) = last x
  outer (step x l w) = then x (outer w)

  pub least-walk : (g : ℕ → ℕ → ℕ) (n : ℕ) → ((s t : ℕ) → Least (E s t) (g s t)) → ((s t d : ℕ) → E s t d → (s < n) × (t < n)) → (s t : ℕ) → Least (Walk E s t) (via g n s t)
  least-walk g n base small s t =
      let L = least-via g base n s t in
      record {
        low = λ d w. L.low d (inner n small w);
        met = λ f. ((L.met f).0, outer (L.met f).1, (L.met f).2);
      }

-- the edges of three lists
module _ (src dst delay : List ℕ) where
  found : (i s t : ℕ) → cost src dst delay i s t ≤ far → Edge src dst delay (suc i) s t (cost src dst delay i s t)
  unfolding cost
  found i s t h = go (ℕ_discrete (get_or src i 0) s) (ℕ_discrete (get_or dst i 0) t)
    where
      go : Dec (get_or src i 0 ≡ s) → Dec (get_or dst i 0 ≡ t) → Edge src dst delay (suc i) s t (cost src dst delay i s t)
      go (yes p) (yes q) =
          record { at = i; inside = omega arith; from = p; to = q; cost = simp (eq-eqb (get_or src i 0) s p, eq-eqb (get_or dst i 0) t q) }
      go (yes p) (no q) = absurd (omega (arith, simp (eq-eqb (get_or src i 0) s p, ne_eqb (get_or dst i 0) t q) at h))
      go (no p) q = absurd (omega (arith, simp (ne_eqb (get_or src i 0) s p) at h))

  -- an edge's own cost is at most its delay
  hit : (i s t : ℕ) → get_or src i 0 ≡ s → get_or dst i 0 ≡ t → cost src dst delay i s t ≡ get_or delay i 0
  unfolding cost
  hit i s t p q = simp (eq-eqb (get_or src i 0) s p, eq-eqb (get_or dst i 0) t q)

  wider : {m s t d : ℕ} → Edge src dst delay m s t d → Edge src dst delay (suc m) s t d
  wider {m} x = record { at = x.at; inside = omega (arith, x.inside); from = x.from; to = x.to; cost = x.cost }

  least_more : (i s t x : ℕ) → get_or delay i 0 < far → Least (Edge src dst delay i s t) x → Least (Edge src dst delay (suc i) s t) (min x (cost src dst delay i s t))
  least_more i s t x fits L = record { low = low; met = λ f. met f (le-or-lt x y) }
    where
      y : ℕ
      y = cost src dst delay i s t

      low : (d : ℕ) → Edge src dst delay (suc i) s t d → min x y ≤ min d far
      low d e = ⊎_elim
          (λ q. omega (arith, hit i s t (rw (← q) e.from) (rw (← q) e.to), ap (λ (j : ℕ). get_or delay j 0) q, e.cost))
          (λ l. omega (arith, L.low d (record { at = e.at; inside = l; from = e.from; to = e.to; cost = e.cost })))
          (eq-or-lt_of_le (le_of_suc-le-suc e.inside))

      met : min x y ≤ far → (x ≤ y) ⊎ (y < x) → (d : ℕ) × Edge src dst delay (suc i) s t d × (min d far ≡ min x y)
      met f (inl h) = let u = L.met (omega arith) in (u.0, wider u.1, omega (arith, u.2))
      met f (inr h) = (y, found i s t (omega arith), omega arith)

  pub least-direct : ((i : ℕ) → get_or delay i 0 < far) → (m s t : ℕ) → Least (Edge src dst delay m s t) (direct src dst delay m s t)
  unfolding direct
  least-direct fits zero s t = record { low = λ d x. absurd (omega (arith, x.inside)); met = λ f. absurd (omega arith) }
  least-direct fits (suc i) s t = least_more i s t (direct src dst delay i s t) (fits i) (least-direct fits i s t)

-- what a least number says, by its view
pub of-near : (v : ℕ) → v < far → reach_of v ≡ At v
unfolding reach_of
of-near v h = simp (lt-ltb v far h)

pub of-far : (v : ℕ) → v ≡ far → reach_of v ≡ TooFar
unfolding reach_of
of-far v h = simp (le-ltb v far (omega arith), le-leb v far (omega arith))

pub of_none : (v : ℕ) → far < v → reach_of v ≡ None
unfolding reach_of
of_none v h = simp (le-ltb v far (omega arith), lt-leb v far h)

pub data Size (v : ℕ) : Type 0 where
  near : v < far → Size v
  just : v ≡ far → Size v
  past : far < v → Size v

pub size : (v : ℕ) → Size v
size v = ⊎_elim (λ h. ⊎_elim (λ e. just e) (λ l. near l) (eq-or-lt_of_le h)) (λ l. past l) (le-or-lt v far)

module _ (W : ℕ → Type 0) (v : ℕ) (L : Least W v) where
  pub at_only : (d : ℕ) → reach_of v ≡ At d → (d < far) × W d × ((e : ℕ) → W e → d ≤ e)
  at_only d q = go (size v)
    where
      go : Size v → (d < far) × W d × ((e : ℕ) → W e → d ≤ e)
      go (near h) =
          let z : v ≡ d = cc (of-near v h) in
          let u = L.met (omega arith) in
          let y : u.0 ≡ d = omega (arith, u.2) in
          (omega arith, subst W y u.1, λ e w. omega (arith, L.low e w))
      go (just h) = let z : ◌≡◌ {A = ℕ} 0 1 = cc (of-far v h) in absurd (omega arith)
      go (past h) = let z : ◌≡◌ {A = ℕ} 0 1 = cc (of_none v h) in absurd (omega arith)

  pub at_if : (d : ℕ) → d < far → W d → ((e : ℕ) → W e → d ≤ e) → reach_of v ≡ At d
  at_if d h w all =
      let u = L.met (omega (arith, L.low d w)) in
      let y : v ≡ d = omega (arith, L.low d w, all u.0 u.1, u.2) in
      of-near v (omega arith) ∙ ap At y

  pub far-only : reach_of v ≡ TooFar → ((d : ℕ) × W d) × ((e : ℕ) → W e → far ≤ e)
  far-only q = go (size v)
    where
      go : Size v → ((d : ℕ) × W d) × ((e : ℕ) → W e → far ≤ e)
      go (near h) = let z : ◌≡◌ {A = ℕ} 0 1 = cc (of-near v h) in absurd (omega arith)
      go (just h) = let u = L.met (omega arith) in ((u.0, u.1), λ e w. omega (arith, L.low e w))
      go (past h) = let z : ◌≡◌ {A = ℕ} 0 1 = cc (of_none v h) in absurd (omega arith)

  pub far_if : (d : ℕ) → W d → ((e : ℕ) → W e → far ≤ e) → reach_of v ≡ TooFar
  far_if d w all =
      let u = L.met (omega (arith, L.low d w)) in
      of-far v (omega (arith, L.low d w, all u.0 u.1, u.2))

  pub none_only : reach_of v ≡ None → (d : ℕ) → W d → ⊥
  none_only q d w = go (size v)
    where
      go : Size v → ⊥
      go (near h) = let z : ◌≡◌ {A = ℕ} 0 1 = cc (of-near v h) in omega arith
      go (just h) = let z : ◌≡◌ {A = ℕ} 0 1 = cc (of-far v h) in omega arith
      go (past h) = omega (arith, L.low d w)

  pub none_if : ((d : ℕ) → W d → ⊥) → reach_of v ≡ None
  none_if out = go (le-or-lt v far)
    where
      go : (v ≤ far) ⊎ (far < v) → reach_of v ≡ None
      go (inl h) = absurd (out (L.met h).0 (L.met h).1)
      go (inr h) = of_none v h

-- the theorem: what `min_delay` says of the walks
pub record Right (W : ℕ → Type 0) (r : Reach) : Type 0 where
  pub at : (d : ℕ) → (r ≡ At d) ↔ ((d < far) × W d × ((e : ℕ) → W e → d ≤ e))
  pub too_far : (r ≡ TooFar) ↔ (((d : ℕ) × W d) × ((e : ℕ) → W e → far ≤ e))
  pub none : (r ≡ None) ↔ ((d : ℕ) → W d → ⊥)

pub right : (W : ℕ → Type 0) (v : ℕ) → Least W v → Right W (reach_of v)
right W v L =
    record {
      at = λ d. (at_only W v L d, λ h. at_if W v L d h.0 h.1 h.2);
      too_far = (far-only W v L, λ h. far_if W v L h.0.0 h.0.1 h.1);
      none = (none_only W v L, none_if W v L);
    }

-- the three lists name members below n, and the delays are words
pub record Edges (src dst delay : List ℕ) (m n : ℕ) : Type 0 where
  pub fits : (i : ℕ) → get_or delay i 0 < far
  pub from : (i : ℕ) → i < m → get_or src i 0 < n
  pub to : (i : ℕ) → i < m → get_or dst i 0 < n

pub least-delay : (src dst delay : List ℕ) (m n : ℕ) → Edges src dst delay m n
    → (s t : ℕ) → Least (Walk (Edge src dst delay m) s t) (via (direct src dst delay m) n s t)
least-delay src dst delay m n h =
    least-walk (Edge src dst delay m) (direct src dst delay m) n (least-direct src dst delay h.fits m)
    (λ a b d x. (omega (arith, x.from, h.from x.at x.inside), omega (arith, x.to, h.to x.at x.inside)))

pub min_delay-right : (src dst delay : List ℕ) (m n : ℕ) → Edges src dst delay m n
    → (s t : ℕ) → Right (Walk (Edge src dst delay m) s t) (min_delay src dst delay m n s t)
unfolding min_delay
min_delay-right src dst delay m n h s t = right (Walk (Edge src dst delay m) s t) _ (least-delay src dst delay m n h s t)

-- Cycles of no delay: which members lie on one, and the strong component of the first.
-- Assumes nothing.
use mathlib.Core.Path.{◌≡◌, subst}
use mathlib.Core.Logic.{◌↔◌}
use mathlib.Core.List.{List}
use Prim.Native.Nat.{ℕ, ◌+◌}
use native.Mathlib.Omega.{arith}
use Rattle.delays.specs.Graph.{Walk, last, then, via, Edge, direct}
use Rattle.delays.proofs.Walks.{Least, Edges, least-delay}

-- a walk of one or more edges, each of no delay
pub data Quick (E : ℕ → ℕ → ℕ → Type 0) : ℕ → ℕ → Type 0 where
  hop : {s t : ℕ} → E s t 0 → Quick E s t
  hop-on : {s m t : ℕ} → E s m 0 → Quick E m t → Quick E s t

-- each reaches the other by edges of no delay
abbrev pub Linked : (ℕ → ℕ → ℕ → Type 0) → ℕ → ℕ → Type 0
Linked E s t = Quick E s t × Quick E t s

module _ (E : ℕ → ℕ → ℕ → Type 0) where
  pub quick : {s t d : ℕ} → d ≡ 0 → Walk E s t d → Quick E s t
  quick {s} {t} e (last x) = hop (subst (λ (n : ℕ). E s t n) e x)
  quick {s} e (then {m = m} {d = d} {e = r} x w) =
      hop-on (subst (λ (n : ℕ). E s m n) (sum_left d r e) x) (quick (sum-right d r e) w)
    where
      sum_left : (a b : ℕ) → a + b ≡ 0 → a ≡ 0
      sum_left a b h = omega arith

      sum-right : (a b : ℕ) → a + b ≡ 0 → b ≡ 0
      sum-right a b h = omega arith

  pub walk : {s t : ℕ} → Quick E s t → Walk E s t 0
  walk (hop x) = last x
  walk (hop-on x q) = then x (walk q)

  pub on : {s m t : ℕ} → Quick E s m → Quick E m t → Quick E s t
  on (hop x) q = hop-on x q
  on (hop-on x p) q = hop-on x (on p q)

  pub zero_iff : (s t v : ℕ) → Least (Walk E s t) v → (v ≡ 0) ↔ Quick E s t
  zero_iff s t v L =
      (λ e. let u = L.met (omega arith) in quick (omega (arith, u.2)) u.1, λ q. omega (arith, L.low 0 (walk q)))

  -- the members linked with i are each other's, and no one else is linked with one of them
  pub within : {i j k : ℕ} → Linked E i j → Linked E i k → Linked E j k
  within a b = (on a.1 b.0, on b.1 a.0)

  pub whole : {i j k : ℕ} → Linked E i j → Linked E j k → Linked E i k
  whole a b = (on a.0 b.0, on b.1 a.1)

-- what the closed matrix says: a member lies on a cycle of no delay where its own entry is 0, and two are linked where both entries are
pub record Cycles (E : ℕ → ℕ → ℕ → Type 0) (v : ℕ → ℕ → ℕ) : Type 0 where
  pub alone : (i : ℕ) → (v i i ≡ 0) ↔ Quick E i i
  pub both : (i j : ℕ) → ((v i j ≡ 0) × (v j i ≡ 0)) ↔ Linked E i j
  pub mutual_all : (i j k : ℕ) → Linked E i j → Linked E i k → Linked E j k
  pub all_mutual : (i j k : ℕ) → Linked E i j → Linked E j k → Linked E i k

cycles-of : (E : ℕ → ℕ → ℕ → Type 0) (v : ℕ → ℕ → ℕ) → ((s t : ℕ) → Least (Walk E s t) (v s t)) → Cycles E v
cycles-of E v L =
    record {
      alone = λ i. zero_iff E i i (v i i) (L i i);
      both = λ i j. (
        λ h. ((zero_iff E i j (v i j) (L i j)).0 h.0, (zero_iff E j i (v j i) (L j i)).0 h.1),
        λ q. ((zero_iff E i j (v i j) (L i j)).1 q.0, (zero_iff E j i (v j i) (L j i)).1 q.1),
      );
      mutual_all = λ i j k. within E;
      all_mutual = λ i j k. whole E;
    }

pub cycles : (src dst delay : List ℕ) (m n : ℕ) → Edges src dst delay m n → Cycles (Edge src dst delay m) (via (direct src dst delay m) n)
cycles src dst delay m n h = cycles-of _ _ (least-delay src dst delay m n h)

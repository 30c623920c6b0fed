-- The kept edges lead on, what is found is a closed walk without delay, and one is found where 8 applies.
-- Assumes nothing.
use mathlib.Core.Bool.{true}
use mathlib.Core.Path.{◌≡◌, refl, sym, ap, ◌∙◌}
use mathlib.Core.Logic.{⊎_elim}
use mathlib.Core.List.{List}
use Prim.Native.Nat.{ℕ, zero, suc, ◌+◌, ◌-◌, ◌<◌, ◌≤◌}
use native.Mathlib.Omega.{arith}
use native.Mathlib.Numerals.{add-one}
use native.Mathlib.Decide.{ℕ_discrete}
use borrow.Author.Tests.{eq-eqb}
use lib.Dec.{eqb}
use lib.ListN.{length, get_or, take, replicate}
use lib.Seq.{length-take-le, get_or-take}
use Rattle.plans.specs.declared.Plan.{Plan}
use Rattle.plans.specs.Numbers.{Reason}
use Rattle.plans.specs.Values.{Fits}
use Rattle.plans.specs.Reading.{Reading, reading_of}
use Rattle.delays.specs.Graph.{far, EdgeOf, minimum_of}
use Rattle.delays.specs.Cells.{grid, Held}
use Rattle.delays.specs.Refusals.{first_loop, refusal_of}
use Rattle.delays.proofs.Walks.{le-or-lt}
use Rattle.delays.proofs.Search.{first-agree}
use Rattle.delays.proofs.Cycles.{Quick, hop, hop-on, on, zero_iff}
use Rattle.delays.proofs.Order.{minimum-least}
use Rattle.delays.proofs.Found.{Verdict, looped, apart, fine, verdict, loop-found, eight}
use Rattle.routes.specs.declared.Walk.{Walk}
use Rattle.routes.specs.Closed.{ClosedZero, accepts}
use Rattle.routes.specs.Paths.{Found, walk_of, Blank}
use Rattle.routes.specs.Trails.{Witness, Closing, Witnessed, Keeping, Leaves, Onward, unvisited, Trail, Stretch, Moved}
use Rattle.routes.proofs.Attaining.{zeros}
use Rattle.routes.proofs.Closed.{accepts-right}
use Rattle.routes.proofs.Trails.{keep-by, keep-only, keep-agree}

pub keeping-held : (p : Plan) → Fits p → (ks vs : List ℕ) (home : ℕ) (was kept : List ℕ) → Held ks vs (minimum_of p) → home < 32
    → Keeping p.targets p.delays p.edges (grid ks vs) home was kept → Keeping p.targets p.delays p.edges (minimum_of p) home was kept
keeping-held p F ks vs home was kept H l K =
    record {
      set = λ i h. K.set i h ∙ keep-agree _ _ home (get_or p.targets i 0) (get_or p.delays i 0) (H.at (get_or p.targets i 0) home (omega (arith, F.to i h, F.few)) l);
      rest = K.rest;
    }

-- nothing is visited yet
pub sets-out : (src dst kept : List ℕ) (m : ℕ) → Trail src dst kept (replicate 32 0) (replicate 32 0) m 0
unfolding unvisited
sets-out src dst kept m =
    record {
      keeps = λ i h. absurd (omega arith);
      joined = λ i h. absurd (omega arith);
      last = λ i h. absurd (omega arith);
      marks = λ x i q. absurd (omega (arith, zeros 32 x));
      count = refl;
    }

module _ (p : Plan) (F : Fits p) (home : ℕ) (kept : List ℕ) (K : Keeping p.targets p.delays p.edges (minimum_of p) home (replicate 256 0) kept) where
  kept_in : (e : ℕ) → (get_or kept e 0 ≡ 0 → ⊥) → e < p.edges
  kept_in e d = ⊎_elim (λ h. absurd (d (K.rest e h ∙ zeros 256 e))) (λ h. h) (le-or-lt p.edges e)

  kept-only : (e : ℕ) → (get_or kept e 0 ≡ 0 → ⊥) → (get_or p.delays e 0 ≡ 0) × (minimum_of p (get_or p.targets e 0) home ≡ 0)
  kept-only e d = keep-only (minimum_of p) home (get_or p.targets e 0) (get_or p.delays e 0) (λ z. d (K.set e (kept_in e d) ∙ z))

  keeps : (e : ℕ) → e < p.edges → get_or p.delays e 0 ≡ 0 → minimum_of p (get_or p.targets e 0) home ≡ 0 → get_or kept e 0 ≡ 0 → ⊥
  keeps e h d z q = omega (arith, K.set e h, keep-by (minimum_of p) home (get_or p.targets e 0) (get_or p.delays e 0) true d (sym (eq-eqb (minimum_of p (get_or p.targets e 0) home) 0 z)))

  module _ (w : (i : ℕ) → get_or p.delays i 0 < far) (z : minimum_of p home home ≡ 0) where
    -- a member that has a minimum of 0 to `home` is left by a kept edge
    pub leaves : (x : ℕ) → minimum_of p x home ≡ 0 → Leaves p.sources kept x 0
    leaves x e = go ((zero_iff (EdgeOf p) x home (minimum_of p x home) (minimum-least p F w x home)).0 e)
      where
        by : (t : ℕ) → EdgeOf p x t 0 → minimum_of p t home ≡ 0 → Leaves p.sources kept x 0
        by t a k =
            record {
              edge = a.at;
              ahead = omega arith;
              inside = omega (arith, a.inside, F.routed);
              from = a.from;
              keeps = keeps a.at a.inside a.cost (rw a.to k);
            }

        go : Quick (EdgeOf p) x home → Leaves p.sources kept x 0
        go (hop a) = by home a z
        go (hop-on {m = m} a q) = by m a ((zero_iff (EdgeOf p) m home (minimum_of p m home) (minimum-least p F w m home)).1 q)

    pub onward : Onward p.sources p.targets kept
    onward =
        record {
          small = λ k h d. omega (arith, F.to k (kept_in k d), F.few);
          on = λ k h d. leaves (get_or p.targets k 0) (kept-only k d).1;
        }

  -- the stretch between is a closed walk
  pub closed_of : (out es : List ℕ) (start end n : ℕ) → Stretch p.sources p.targets kept out start end → n ≡ end - start → length es ≡ 32
      → Moved out (replicate 32 0) es start n → Closing p (record { count = n; edges = es })
  closed_of out es start end n S q long M =
      record {
        some = omega (arith, S.some);
        few = omega (arith, S.few);
        right = right;
        blank = λ i h. M.rest i h ∙ zeros 32 i;
      }
    where
      taken : length (take n es) ≡ n
      taken = length-take-le n es (omega (arith, S.few))

      at : (i : ℕ) → i < n → get_or (take n es) i 0 ≡ get_or out (start + i) 0
      at i h = get_or-take n es i 0 h ∙ M.set i h

      right : ClosedZero p (take n es)
      right =
          let s = S.some in
          let a : start + (n - 1) ≡ end - 1 = omega arith in
          let b : start + 0 ≡ start = omega arith in
          record {
            some = omega (arith, taken);
            few = omega (arith, taken, S.few);
            inside = λ i h. let k : i < n = omega (arith, taken) in rw (at i k) (kept_in (get_or out (start + i) 0) (S.keeps (start + i) (omega arith)).1);
            still = λ i h. let k : i < n = omega (arith, taken) in rw (at i k) (kept-only (get_or out (start + i) 0) (S.keeps (start + i) (omega arith)).1).0;
            joined = λ i h. let k : i + 1 < n = omega (arith, taken) in
                let c : start + i + 1 ≡ start + (i + 1) = omega arith in
                rw (at i (omega arith), at (i + 1) k) (rw c at (S.joined (start + i) (omega arith)));
            closed = rw (taken, at (n - 1) (omega arith), at 0 (omega arith), a, b) S.closed;
          }

-- ---- 8 applies exactly if a member has a minimum of 0 to itself
pub loop-held : (p : Plan) → Fits p → (ks vs : List ℕ) → Held ks vs (minimum_of p) → first_loop (grid ks vs) p.members ≡ first_loop (minimum_of p) p.members
unfolding first_loop
loop-held p F ks vs H =
    first-agree _ _ p.members (λ j l. ap (λ (x : ℕ). eqb x 0) (H.at j j (omega (arith, F.few)) (omega (arith, F.few)))) 0 p.members (omega arith)

number_of : (a b : Reason) → a ≡ b → a.number ≡ b.number
number_of a b e = ap (λ (x : Reason). x.number) e

module _ (p : Plan) (h : ℕ) (e : h ≡ first_loop (minimum_of p) p.members) where
  pub loop-zero : h < p.members → minimum_of p h h ≡ 0
  loop-zero l = rw e (loop-found (minimum_of p) p.members (omega arith))

  pub loop-eight : h < p.members → (refusal_of p).number ≡ 8
  unfolding refusal_of
  loop-eight l = go (verdict (minimum_of p) p.ids p.members)
    where
      go : Verdict (minimum_of p) p.ids p.members → (refusal_of p).number ≡ 8
      go (looped a q) = number_of _ _ q
      go (apart a b q) = absurd (omega arith)
      go (fine a b q) = absurd (omega arith)

  pub loop-not : p.members ≤ h → (refusal_of p).number ≡ 8 → ⊥
  unfolding refusal_of
  loop-not l r = go (verdict (minimum_of p) p.ids p.members)
    where
      go : Verdict (minimum_of p) p.ids p.members → ⊥
      go (looped a q) = omega arith
      go (apart a b q) = omega (arith, number_of _ _ q)
      go (fine a b q) = omega (arith, number_of _ _ q)

  pub no-witness : (es : List ℕ) → ((i : ℕ) → get_or es i 0 ≡ 0) → p.members ≤ h → Witness p (record { count = 0; edges = es })
  no-witness es blank l =
      record {
        right = λ k. absurd (omega arith);
        missing = (λ _. loop-not l, λ _. refl);
        few = omega arith;
        blank = λ i k. blank i;
      }

  pub a-witness : (w : Walk) → h < p.members → Closing p w → Witness p w
  a-witness w l C =
      record {
        right = λ k. C.right;
        missing = (λ q. absurd (omega (arith, C.some)), λ n. absurd (n (loop-eight l)));
        few = C.few;
        blank = C.blank;
      }

pub witnessed-not : (b : List ℕ) (r : Reading) (f : Found) → r ≡ reading_of b → (f.refusal ≡ r.refusal) × Blank f → (r.refusal.number ≡ 0 → ⊥) → Witnessed b f
witnessed-not b r f e B d =
    record {
      refusal = B.0 ∙ ap (λ (x : Reading). x.refusal) e;
      refused = λ _. B.1;
      answered = λ z. absurd (d (sym (number_of _ _ B.0) ∙ z));
    }

pub witnessed : (b : List ℕ) (r : Reading) (w : Walk) → r ≡ reading_of b → Witness r.plan w → r.refusal.number ≡ 0
    → Witnessed b (record { refusal = r.refusal; count = w.count; edges = w.edges })
witnessed b r w e W z =
    record {
      refusal = ap (λ (x : Reading). x.refusal) e;
      refused = λ d. absurd (d z);
      answered = λ _. rw (← e) W;
    }

-- ---- the witness and its check
-- the check accepts what is found
pub witness-accepted : (b : List ℕ) (r : Found) → Witnessed b r → 0 < r.count → accepts b (walk_of r) ≡ true
witness-accepted b r W h = go (ℕ_discrete r.refusal.number 0)
  where
    go : Dec (r.refusal.number ≡ 0) → accepts b (walk_of r) ≡ true
    go (no d) = absurd (omega (arith, (W.refused d).count))
    go (yes z) =
        let A = W.answered z in
        (accepts-right b (walk_of r)).1 (sym (number_of _ _ W.refusal) ∙ z, A.few, A.right h)

-- a closed walk without delay means refusal 8
pub closed-eight : (p : Plan) → Fits p → ((i : ℕ) → get_or p.delays i 0 < far) → (ws : List ℕ) → ClosedZero p ws → (refusal_of p).number ≡ 8
closed-eight p F w ws C =
    let s = C.some in
    (eight p F w).1 (get_or p.sources (get_or ws 0 0) 0, rw C.closed at (along (length ws - 1) (omega arith)))
  where
    edge : (i : ℕ) → i < length ws → EdgeOf p (get_or p.sources (get_or ws i 0) 0) (get_or p.targets (get_or ws i 0) 0) 0
    edge i h = record { at = get_or ws i 0; inside = C.inside i h; from = refl; to = refl; cost = C.still i h }

    along : (k : ℕ) → k < length ws → Quick (EdgeOf p) (get_or p.sources (get_or ws 0 0) 0) (get_or p.targets (get_or ws k 0) 0)
    along zero h = hop (edge zero h)
    along (suc k) h =
        let j : get_or p.targets (get_or ws k 0) 0 ≡ get_or p.sources (get_or ws (suc k) 0) 0 = rw add-one at (C.joined k (omega arith)) in
        on (EdgeOf p) (rw j at (along k (omega arith))) (hop (edge (suc k) h))

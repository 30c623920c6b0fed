-- "Most: 31,920 bytes."
-- Assumes nothing.
use mathlib.Core.Path.{◌≡◌, refl, sym, ap, ◌∙◌}
use mathlib.Core.Bool.{Bool, true, false}
use mathlib.Core.Logic.{⊎_elim}
use mathlib.Core.List.{List}
use Prim.Native.Nat.{ℕ, zero, suc, ◌+◌, ◌*◌, ◌<◌, ◌≤◌, min}
use native.Mathlib.Omega.{arith}
use native.Mathlib.Nat.{eq-or-lt_of_le}
use borrow.Author.Tests.{ltb-true, ltb-false, le-ltb, eq-eqb, ne_eqb, eqb-false}
use lib.Dec.{ltb, eqb}
use lib.ListN.{length, get_or}
use Rattle.basis.specs.Choice.{pick, not, both}
use Rattle.plans.specs.declared.Plan.{Plan}
use Rattle.plans.specs.Values.{Fits}
use Rattle.delays.specs.Graph.{far, none, cost, direct, direct_of, minimum_of}
use Rattle.delays.specs.Lists.{sourced, passing, reached, direct_sources, transitive_sources, downstream}
use Rattle.image.specs.Image.{first_of, direct_count, transitive_count, downstream_count, total_of, image_of}
use Rattle.image.specs.Writing.{summed, counted}
use Rattle.image.proofs.Counts.{summed-most, one-most, counted-most}
use Rattle.image.proofs.Plans.{first-is, count-is, sourced-chosen, passing-chosen}
use Rattle.image.proofs.Sizes.{length-image}

-- ---- sums
summed-le : (f g : ℕ → ℕ) (k : ℕ) → ((i : ℕ) → i < k → f i ≤ g i) → summed f k ≤ summed g k
unfolding summed
summed-le f g zero h = omega arith
summed-le f g (suc k) h = omega (arith, summed-le f g k (λ i l. h i (omega arith)), h k (omega arith))

summed-add : (f g : ℕ → ℕ) (k : ℕ) → summed (λ (i : ℕ). f i + g i) k ≡ summed f k + summed g k
unfolding summed
summed-add f g zero = refl
summed-add f g (suc k) = omega (arith, summed-add f g k)

-- a place is hit once, if it is among those
hit : ℕ → ℕ → ℕ
hit a i = pick (eqb a i) 1 0

hit_same : (a : ℕ) → hit a a ≡ 1
unfolding hit
hit_same a = rw (eq-eqb a a refl)

hit_other : (a i : ℕ) → (a ≡ i → ⊥) → hit a i ≡ 0
unfolding hit
hit_other a i h = rw (ne_eqb a i h)

hit-never : (a k : ℕ) → k ≤ a → summed (hit a) k ≡ 0
unfolding summed
hit-never a zero h = refl
hit-never a (suc k) h = omega (arith, hit-never a k (omega arith), hit_other a k (λ e. omega arith))

hit-once : (a k : ℕ) → a < k → summed (hit a) k ≡ 1
unfolding summed
hit-once a zero h = absurd (omega arith)
hit-once a (suc k) h =
    ⊎_elim
    (λ e. rw (← e) (omega (arith, hit-never a a (omega arith), hit_same a)))
    (λ l. omega (arith, hit-once a k l, hit_other a k (λ e. omega arith)))
    (eq-or-lt_of_le {n = a} {m = k} (omega arith))

hit-most : (a k : ℕ) → summed (hit a) k ≤ 1
hit-most a k = by-test (ltb a k) refl
  where
    by-test : (b : Bool) → ltb a k ≡ b → summed (hit a) k ≤ 1
    by-test true e = omega (arith, hit-once a k (ltb-true a k e))
    by-test false e = omega (arith, hit-never a k (ltb-false a k e))

-- ---- direct rows: each edge adds one at most
near : ℕ → ℕ
near v = pick (ltb v far) 1 0

near_min : (a b : ℕ) → near (min a b) ≤ near a + near b
unfolding near
near_min a b = by_tests (ltb a far) (ltb b far) refl refl
  where
    by_tests : (x y : Bool) → ltb a far ≡ x → ltb b far ≡ y → pick (ltb (min a b) far) 1 0 ≤ pick x 1 0 + pick y 1 0
    by_tests true y e f = omega (arith, one-most (ltb (min a b) far), one-most y)
    by_tests false true e f = omega (arith, one-most (ltb (min a b) far))
    by_tests false false e f = rw (le-ltb (min a b) far (omega (arith, ltb-false a far e, ltb-false b far f))) (omega arith)

module _ (src dst delay : List ℕ) where
  -- an edge counts for its own pair alone
  near-cost : (i s t : ℕ) → near (cost src dst delay i s t) ≤ pick (eqb (get_or dst i 0) t) (hit (get_or src i 0) s) 0
  unfolding near cost hit
  near-cost i s t = by_tests (eqb (get_or src i 0) s) (eqb (get_or dst i 0) t)
    where
      by_tests : (x y : Bool) → pick (ltb (pick x (pick y (get_or delay i 0) none) none) far) 1 0 ≤ pick y (pick x 1 0) 0
      by_tests true true = one-most (ltb (get_or delay i 0) far)
      by_tests true false = omega arith
      by_tests false true = omega arith
      by_tests false false = omega arith

  -- rows of target t after m edges
  found : ℕ → ℕ → ℕ → ℕ
  found n m t = summed (λ (s : ℕ). near (direct src dst delay m s t)) n

  pick-sum : (b : Bool) (f : ℕ → ℕ) (k : ℕ) → summed (λ (i : ℕ). pick b (f i) 0) k ≡ pick b (summed f k) 0
  unfolding summed
  pick-sum true f zero = refl
  pick-sum true f (suc k) = rw (pick-sum true f k)
  pick-sum false f zero = refl
  pick-sum false f (suc k) = rw (pick-sum false f k)

  pick-least : (b : Bool) (x : ℕ) → x ≤ 1 → pick b x 0 ≤ pick b 1 0
  pick-least true x h = h
  pick-least false x h = omega arith

  found-more : (n m t : ℕ) → found n (suc m) t ≤ found n m t + hit (get_or dst m 0) t
  unfolding found direct hit
  found-more n m t =
      let old : ℕ → ℕ = λ (s : ℕ). near (direct src dst delay m s t) in
      let new : ℕ → ℕ = λ (s : ℕ). near (cost src dst delay m s t) in
      let own : ℕ → ℕ = λ (s : ℕ). pick (eqb (get_or dst m 0) t) (hit (get_or src m 0) s) 0 in
      let a : summed (λ (s : ℕ). near (min (direct src dst delay m s t) (cost src dst delay m s t))) n ≤ summed (λ (s : ℕ). old s + new s) n =
      summed-le _ _ n (λ s l. near_min (direct src dst delay m s t) (cost src dst delay m s t)) in
      let b : summed new n ≤ summed own n = summed-le new own n (λ s l. near-cost m s t) in
      let c : summed own n ≤ pick (eqb (get_or dst m 0) t) 1 0 = rw (pick-sum (eqb (get_or dst m 0) t) (hit (get_or src m 0)) n) (pick-least (eqb (get_or dst m 0) t) (summed (hit (get_or src m 0)) n) (hit-most (get_or src m 0) n)) in
      omega (arith, summed-add old new n)

  near_none : near none ≡ 0
  unfolding near
  near_none = refl

  found_none : (n t : ℕ) → found n 0 t ≡ 0
  unfolding found direct summed
  found_none zero t = refl
  found_none (suc n) t = omega (arith, found_none n t, near_none)

  edges_most : (n m : ℕ) → summed (found n m) n ≤ m
  edges_most n zero = omega (arith, summed-most (found n 0) 0 n (λ t l. omega (arith, found_none n t)))
  edges_most n (suc m) =
      let a : summed (found n (suc m)) n ≤ summed (λ (t : ℕ). found n m t + hit (get_or dst m 0) t) n = summed-le _ _ n (λ t l. found-more n m t) in
      omega (arith, summed-add (found n m) (hit (get_or dst m 0)) n, edges_most n m, hit-most (get_or dst m 0) n)

-- ---- the counts of a plan
sourced-count : (f : ℕ → ℕ) (n : ℕ) → counted (λ (s : ℕ). ltb (f s) far) n ≡ length (sourced f n)
sourced-count f n =
    count-is (λ (s : ℕ). ltb (f s) far) (λ (s : ℕ). ltb (f s) far) (λ (s : ℕ). record { source = s; delay = f s }) n (λ s l. refl)
    ∙ ap length (sourced-chosen f n)

pub direct-most : (p : Plan) → direct_count p ≤ p.edges
unfolding direct_count direct_sources found counted near
direct-most p =
    let e : summed (found p.sources p.targets p.delays p.members p.edges) p.members ≡ first_of (direct_sources p) p.members =
    first-is (found p.sources p.targets p.delays p.members p.edges) (direct_sources p) p.members (λ t l. sourced-count (λ (s : ℕ). direct_of p s t) p.members) in
    omega (arith, edges_most p.sources p.targets p.delays p.members p.edges)

-- places that each have few, over any list
rows-most : {A : Type 0} (l : ℕ → List A) (m n : ℕ) → ((i : ℕ) → i < n → length (l i) ≤ m) → first_of l n ≤ m * n
rows-most l m n h = omega (arith, first-is (λ (i : ℕ). length (l i)) l n (λ i l. refl), summed-most (λ (i : ℕ). length (l i)) m n h)

pub transitive-most : (p : Plan) → p.members ≤ 32 → transitive_count p ≤ 32 * p.members
unfolding transitive_count transitive_sources
transitive-most p few =
    rows-most (transitive_sources p) 32 p.members
    (λ t l. omega (arith, sourced-count (λ (s : ℕ). minimum_of p s t) p.members, counted-most (λ (s : ℕ). ltb (minimum_of p s t) far) p.members))

-- a member is not downstream of itself
apart : (s t : ℕ) (b : Bool) → pick (both (not (eqb t s)) b) 1 0 + hit s t ≤ 1
unfolding hit
apart s t b = by-test (eqb t s) refl
  where
    by-test : (x : Bool) → eqb t s ≡ x → pick (both (not x) b) 1 0 + pick (eqb s t) 1 0 ≤ 1
    by-test true e = omega (arith, one-most (eqb s t))
    by-test false e = rw (ne_eqb s t (λ q. eqb-false t s e (sym q))) (omega (arith, one-most b))

others-most : (test : ℕ → Bool) (n s : ℕ) → s < n → counted (λ (t : ℕ). both (not (eqb t s)) (test t)) n + 1 ≤ n
unfolding counted
others-most test n s h =
    let f : ℕ → ℕ = λ (t : ℕ). pick (both (not (eqb t s)) (test t)) 1 0 in
    omega (arith, summed-add f (hit s) n, hit-once s n h, summed-most (λ (t : ℕ). f t + hit s t) 1 n (λ t l. apart s t (test t)))

passing-count : (test : ℕ → Bool) (n : ℕ) → counted test n ≡ length (passing test n)
passing-count test n = count-is test test (λ (t : ℕ). t) n (λ t l. refl) ∙ ap length (passing-chosen test n)

pub downstream-most : (p : Plan) → p.members ≤ 32 → downstream_count p ≤ 31 * p.members
unfolding downstream_count downstream reached
downstream-most p few =
    rows-most (downstream p) 31 p.members
    (λ s l. omega (arith, passing-count (reached p s) p.members, others-most (λ (t : ℕ). ltb (minimum_of p s t) far) p.members s l))

-- ---- the most
pub total-most : (p : Plan) → Fits p → total_of p ≤ 31920
unfolding total_of
total-most p fits = omega (arith, fits.few, fits.routed, direct-most p, transitive-most p fits.few, downstream-most p fits.few)

pub image-most : (p : Plan) → Fits p → length (image_of p) ≤ 31920
image-most p fits = omega (arith, length-image p, total-most p fits)

-- What the marks say, and how they are read off the matrix.
-- Assumes nothing.
use mathlib.Core.Bool.{true, false}
use mathlib.Core.Path.{◌≡◌, refl, sym, ap, ◌∙◌}
use mathlib.Core.Logic.{◌⊎◌, ⊎_elim, inl, inr}
use mathlib.Core.List.{List}
use Prim.Native.Nat.{ℕ, ◌+◌, ◌<◌, ◌≤◌, min}
use native.Mathlib.Omega.{arith}
use native.Mathlib.Nat.{eq-or-lt_of_le}
use native.Mathlib.Decide.{ℕ_discrete}
use borrow.Author.Tests.{eqb-true, lt-ltb, le-ltb, eq-eqb, ne_eqb}
use lib.Dec.{eqb}
use lib.ListN.{length, get_or, set, get_or-map}
use denote.Enum.Bare.{sameb}
use Rattle.std.proofs.lemmas.List.{map-set, length-map}
use lib.Seq.{get_or-set_same, get_or-set_other}
use Rattle.basis.specs.Choice.{pick, not, both}
use Rattle.delays.specs.declared.Reach.{Reach}
use Rattle.delays.specs.declared.Reach.TheVariants.{At, TooFar, None}
use Rattle.delays.specs.Graph.{far, none, plus, reach_of}
use Rattle.delays.specs.Cells.{dist_of}
use Rattle.delays.proofs.Walks.{le-or-lt, of-near, of-far, of_none, Size, near, just, past, size}
use Rattle.routes.specs.declared.marking.Mark.{Mark}
use Rattle.routes.specs.declared.marking.Mark.TheVariants.{Not, After, Alone}
use Rattle.routes.specs.contracts.marking.Mark.{the_type}
use Rattle.routes.specs.Paths.{mark_no, marks_of, mark_of, Marked, enters}
use Rattle.routes.proofs.Every.{both_true}

-- ---- a reach by its view
pub seen_at : (v d : ℕ) → reach_of v ≡ At d → (v ≡ d) × (v < far)
seen_at v d e = go (size v)
  where
    go : Size v → (v ≡ d) × (v < far)
    go (near h) = (cc (of-near v h), h)
    go (just h) = let z : ◌≡◌ {A = ℕ} 0 1 = cc (of-far v h) in absurd (omega arith)
    go (past h) = let z : ◌≡◌ {A = ℕ} 0 1 = cc (of_none v h) in absurd (omega arith)

pub seen-not : (v : ℕ) → ((d : ℕ) → reach_of v ≡ At d → ⊥) → far ≤ v
seen-not v n = ⊎_elim (λ h. h) (λ l. absurd (n v (of-near v l))) (le-or-lt far v)

-- ---- a sum by its view
dist-seen : (x : ℕ) → x < far → dist_of (reach_of x) ≡ x
dist-seen x h = rw (of-near x h) (omega arith)

dist-over : (x : ℕ) → far ≤ x → far ≤ dist_of (reach_of x)
dist-over x h = go (size x)
  where
    go : Size x → far ≤ dist_of (reach_of x)
    go (near l) = absurd (omega arith)
    go (just e) = rw (of-far x e) (omega arith)
    go (past l) = rw (of_none x l) (omega arith)

module _ (x d v : ℕ) (r q : Reach) (e : r ≡ reach_of x) (s : dist_of q ≡ plus (dist_of r) (min d far)) (hd : d < far) (hv : v < far) where
  pub sum-seen : q ≡ At v → eqb (x + d) v ≡ true
  unfolding plus
  sum-seen k = eq-eqb (x + d) v (go (le-or-lt far x))
    where
      total : min v far ≡ plus (dist_of (reach_of x)) (min d far)
      total = rw (k, e) at s

      go : (far ≤ x) ⊎ (x < far) → x + d ≡ v
      go (inl h) = absurd (omega (arith, total, dist-over x h))
      go (inr h) = omega (arith, total, dist-seen x h)

  pub sum-other : (q ≡ At v → ⊥) → eqb (x + d) v ≡ false
  unfolding plus
  sum-other n = ne_eqb (x + d) v (λ k. go q refl (rw e at s) k)
    where
      go : (y : Reach) → q ≡ y → dist_of q ≡ plus (dist_of (reach_of x)) (min d far) → x + d ≡ v → ⊥
      go (At w) z t k =
          let u : min w far ≡ plus (dist_of (reach_of x)) (min d far) = rw z at t in
          let m : w ≡ v = omega (arith, u, dist-seen x (omega arith)) in
          n (z ∙ ap At m)
      go TooFar z t k =
          let u : far ≡ plus (dist_of (reach_of x)) (min d far) = rw z at t in
          omega (arith, u, dist-seen x (omega arith))
      go None z t k =
          let u : none ≡ plus (dist_of (reach_of x)) (min d far) = rw z at t in
          omega (arith, u, dist-seen x (omega arith))

-- ---- marks as numbers
pub marks-at : (ms : List Mark) (e : ℕ) → get_or (marks_of ms) e 0 ≡ mark_no (get_or ms e Not)
marks-at ms e = get_or-map mark_no ms e Not

pub is_marked : (m : Mark) → not (sameb the_type m Not) ≡ not (eqb (mark_no m) 0)
is_marked Not = refl
is_marked After = refl
is_marked Alone = refl

pub alone-at : (ms : List Mark) (e : ℕ) → get_or ms e Not ≡ Alone → get_or (marks_of ms) e 0 ≡ 2
alone-at ms e q = marks-at ms e ∙ ap mark_no q

alone-two : (m : Mark) → mark_no m ≡ 2 → m ≡ Alone
alone-two Not q = absurd (omega arith)
alone-two After q = absurd (omega arith)
alone-two Alone q = refl

pub alone-not : (ms : List Mark) (e : ℕ) → (get_or ms e Not ≡ Alone → ⊥) → get_or (marks_of ms) e 0 ≡ 2 → ⊥
alone-not ms e n q = n (alone-two _ (sym (marks-at ms e) ∙ q))

-- ---- the mark
module _ (g : ℕ → ℕ) (from s t d : ℕ) where
  pub mark-near : (v r : ℕ) → reach_of (g t) ≡ At v → r ≡ pick (both (eqb s from) (eqb d v)) 2 (pick (eqb (g s + d) v) 1 0) → r ≡ mark_of g from s t d
  unfolding mark_of
  mark-near v r e q =
      let k = seen_at (g t) v e in
      rw (lt-ltb (g t) far k.1) (rw k.0 q)

  pub mark-out : far ≤ g t → 0 ≡ mark_of g from s t d
  unfolding mark_of
  mark-out h = rw (le-ltb (g t) far h) refl

  pub not_alone : (v : ℕ) → (s ≡ from → d ≡ v → ⊥) → both (eqb s from) (eqb d v) ≡ false
  not_alone v n = go (ℕ_discrete s from)
    where
      go : Dec (s ≡ from) → both (eqb s from) (eqb d v) ≡ false
      go (yes e) = rw (eq-eqb s from e) (ne_eqb d v (n e))
      go (no e) = rw (ne_eqb s from e) refl

  -- what each mark says
  pub data Meaning : Type 0 where
    out : far ≤ g t → mark_of g from s t d ≡ 0 → Meaning
    alone : g t < far → s ≡ from → d ≡ g t → mark_of g from s t d ≡ 2 → Meaning
    after : g t < far → g s + d ≡ g t → mark_of g from s t d ≡ 1 → Meaning
    off : g t < far → (s ≡ from → d ≡ g t → ⊥) → (g s + d ≡ g t → ⊥) → mark_of g from s t d ≡ 0 → Meaning

  pub meaning : Meaning
  unfolding mark_of
  meaning = ⊎_elim (λ h. out h (rw (le-ltb (g t) far h) refl)) (λ h. go h (ℕ_discrete s from) (ℕ_discrete d (g t)) (ℕ_discrete (g s + d) (g t))) (le-or-lt far (g t))
    where
      go : g t < far → Dec (s ≡ from) → Dec (d ≡ g t) → Dec (g s + d ≡ g t) → Meaning
      go h (yes a) (yes b) c = alone h a b (rw (lt-ltb (g t) far h, eq-eqb s from a, eq-eqb d (g t) b) refl)
      go h (yes a) (no b) (yes c) = after h c (rw (lt-ltb (g t) far h, eq-eqb s from a, ne_eqb d (g t) b, eq-eqb (g s + d) (g t) c) refl)
      go h (yes a) (no b) (no c) = off h (λ x y. b y) c (rw (lt-ltb (g t) far h, eq-eqb s from a, ne_eqb d (g t) b, ne_eqb (g s + d) (g t) c) refl)
      go h (no a) b (yes c) = after h c (rw (lt-ltb (g t) far h, ne_eqb s from a, eq-eqb (g s + d) (g t) c) refl)
      go h (no a) b (no c) = off h (λ x y. a x) c (rw (lt-ltb (g t) far h, ne_eqb s from a, ne_eqb (g s + d) (g t) c) refl)

pub mark-agree : (f g : ℕ → ℕ) (from s t d : ℕ) → f s ≡ g s → f t ≡ g t → mark_of f from s t d ≡ mark_of g from s t d
unfolding mark_of
mark-agree f g from s t d p q = rw (p, q) refl

-- ---- marking, edge by edge
module _ (src dst delay : List ℕ) (g : ℕ → ℕ) (from : ℕ) (was : List ℕ) where
  pub marked-none : Marked src dst delay 0 g from was was
  marked-none = record { set = λ i h. absurd (omega arith); rest = λ i h. refl }

  pub marked_more : (k : ℕ) (marks : List ℕ) (v : ℕ) → k < length marks → Marked src dst delay k g from was marks
      → v ≡ mark_of g from (get_or src k 0) (get_or dst k 0) (get_or delay k 0) → Marked src dst delay (k + 1) g from was (set marks k v)
  marked_more k marks v l M e =
      record {
        set = λ i h. one i (eq-or-lt_of_le (omega arith));
        rest = λ i h. get_or-set_other marks k i v 0 (omega arith) ∙ M.rest i (omega arith);
      }
    where
      one : (i : ℕ) → (i ≡ k) ⊎ (i < k) → get_or (set marks k v) i 0 ≡ mark_of g from (get_or src i 0) (get_or dst i 0) (get_or delay i 0)
      one i (inl q) = rw q (get_or-set_same marks k v 0 l ∙ e)
      one i (inr h) = get_or-set_other marks k i v 0 (omega arith) ∙ M.set i h

  pub marked_marks : (k : ℕ) (ms : List Mark) (m : Mark) → k < length ms → Marked src dst delay k g from was (marks_of ms)
      → mark_no m ≡ mark_of g from (get_or src k 0) (get_or dst k 0) (get_or delay k 0) → Marked src dst delay (k + 1) g from was (marks_of (set ms k m))
  marked_marks k ms m l M e = rw (map-set mark_no ms k m) (marked_more k (marks_of ms) (mark_no m) (rw (length-map ms mark_no) l) M e)

-- ---- the edge that enters
pub enters-not : (dst marks : List ℕ) (at e x : ℕ) → x ≡ get_or dst e 0 → (x ≡ at → ⊥) → false ≡ enters dst marks at e
unfolding enters
enters-not dst marks at e x q d = rw (ne_eqb (get_or dst e 0) at (λ z. d (q ∙ z))) refl

pub enters-by : (dst marks : List ℕ) (at e x : ℕ) → x ≡ get_or dst e 0 → x ≡ at → not (eqb (get_or marks e 0) 0) ≡ enters dst marks at e
unfolding enters
enters-by dst marks at e x q d = rw (eq-eqb (get_or dst e 0) at (sym q ∙ d)) refl

pub enters_true : (dst marks : List ℕ) (at e : ℕ) → enters dst marks at e ≡ true → (get_or dst e 0 ≡ at) × (get_or marks e 0 ≡ 0 → ⊥)
unfolding enters
enters_true dst marks at e q =
    let r = both_true _ _ q in
    (eqb-true _ _ r.0, λ z. clash (rw (eq-eqb (get_or marks e 0) 0 z) at r.1))
  where
    clash : false ≡ true → ⊥
    clash k = let z : ◌≡◌ {A = ℕ} 0 1 = cc in omega arith

pub enters_if : (dst marks : List ℕ) (at e : ℕ) → get_or dst e 0 ≡ at → (get_or marks e 0 ≡ 0 → ⊥) → enters dst marks at e ≡ true
unfolding enters
enters_if dst marks at e q d = rw (eq-eqb (get_or dst e 0) at q, ne_eqb (get_or marks e 0) 0 d) refl

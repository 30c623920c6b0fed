-- Along kept edges until a member repeats.
-- Assumes nothing.
use mathlib.Core.Bool.{Bool, true, false}
use mathlib.Core.Path.{◌≡◌, refl, sym, ap, ◌∙◌}
use mathlib.Core.Logic.{◌⊎◌, ⊎_elim, inl, inr}
use mathlib.Core.List.{List, [], ◌∷◌}
use Prim.Native.Nat.{ℕ, zero, suc, ◌+◌, ◌-◌, ◌<◌, ◌≤◌}
use native.Mathlib.Omega.{arith}
use native.Mathlib.Nat.{eq-or-lt_of_le, le_of_suc-le-suc, not-suc-le-zero}
use native.Mathlib.Decide.{ℕ_discrete}
use borrow.Author.Tests.{eqb-true, eq-eqb, ne_eqb}
use lib.Dec.{eqb}
use lib.ListN.{length, get_or, set, get_or-map}
use Rattle.std.proofs.lemmas.List.{map-set, length-map}
use lib.Seq.{get_or-set_same, get_or-set_other}
use native.Mathlib.Numerals.{add-one}
use Rattle.std.proofs.Common.{Option, None, Some}
use Rattle.basis.specs.Choice.{pick, not}
use Rattle.routes.specs.Trails.{keep_of, kept_no, kept_of, seen_no, seen_of, Keeping, leaving, Leaves, unvisited, Trail, Standing, Stretch}
use Rattle.routes.proofs.Every.{both_true}

-- ---- counting
one : (x : ℕ) → pick (eqb x 0) 1 0 ≤ 1
one x = go (eqb x 0)
  where
    go : (b : Bool) → pick b 1 0 ≤ 1
    go true = omega arith
    go false = omega arith

-- a mark takes one away
pub marked : (s : List ℕ) (i v : ℕ) → i < length s → get_or s i 0 ≡ 0 → (v ≡ 0 → ⊥) → unvisited s ≡ unvisited (set s i v) + 1
unfolding unvisited
marked [] i v l e d = absurd (not-suc-le-zero l)
marked (x ∷ s) zero v l e d = rw (eq-eqb x 0 e, ne_eqb v 0 d) (omega arith)
marked (x ∷ s) (suc i) v l e d = omega (arith, marked s i v (le_of_suc-le-suc l) e d)

-- ---- a kept edge that leaves
pub leaving-not : (src kept : List ℕ) (m e x : ℕ) → x ≡ get_or src e 0 → (x ≡ m → ⊥) → false ≡ leaving src kept m e
unfolding leaving
leaving-not src kept m e x q d = rw (ne_eqb (get_or src e 0) m (λ z. d (q ∙ z))) refl

pub leaving-by : (src kept : List ℕ) (m e x : ℕ) → x ≡ get_or src e 0 → x ≡ m → not (eqb (get_or kept e 0) 0) ≡ leaving src kept m e
unfolding leaving
leaving-by src kept m e x q d = rw (eq-eqb (get_or src e 0) m (sym q ∙ d)) refl

clash : false ≡ true → ⊥
clash k = let z : ◌≡◌ {A = ℕ} 0 1 = cc in omega arith

-- kept as numbers
kept-at : (ks : List Bool) (e : ℕ) → get_or (kept_of ks) e 0 ≡ kept_no (get_or ks e false)
kept-at ks e = get_or-map kept_no ks e false

is_kept : (b : Bool) → b ≡ not (eqb (kept_no b) 0)
is_kept true = refl
is_kept false = refl

pub leaving-kept : (src : List ℕ) (ks : List Bool) (m e x : ℕ) → x ≡ get_or src e 0 → x ≡ m → get_or ks e false ≡ leaving src (kept_of ks) m e
leaving-kept src ks m e x q d =
    is_kept _ ∙ ap (λ (k : ℕ). not (eqb k 0)) (sym (kept-at ks e)) ∙ leaving-by src (kept_of ks) m e x q d

pub leaving_true : (src kept : List ℕ) (m e : ℕ) → leaving src kept m e ≡ true → (get_or src e 0 ≡ m) × (get_or kept e 0 ≡ 0 → ⊥)
unfolding leaving
leaving_true src kept m e q =
    let r = both_true _ _ q in
    (eqb-true _ _ r.0, λ z. clash (rw (eq-eqb (get_or kept e 0) 0 z) at r.1))

-- not here: further on
pub leaves-on : (src kept : List ℕ) (m k : ℕ) → Leaves src kept m k → leaving src kept m k ≡ false → Leaves src kept m (k + 1)
unfolding leaving
leaves-on src kept m k L e =
    record {
      edge = L.edge;
      ahead = ⊎_elim (λ q. absurd (here q)) (λ l. omega arith) (eq-or-lt_of_le L.ahead);
      inside = L.inside;
      from = L.from;
      keeps = L.keeps;
    }
  where
    here : k ≡ L.edge → ⊥
    here q = clash (sym e ∙ rw (q, eq-eqb (get_or src L.edge 0) m L.from, ne_eqb (get_or kept L.edge 0) 0 L.keeps) refl)

module _ (src dst kept seen out : List ℕ) (m depth : ℕ) where
  -- ---- a visit
  pub stands : length seen ≡ 32 → m < 32 → get_or seen m 0 ≡ 0 → Trail src dst kept seen out m depth → Standing src dst kept (set seen m (depth + 1)) out m depth
  stands l h e T =
      record {
        keeps = T.keeps;
        joined = T.joined;
        last = T.last;
        marks = λ x i q. by x i q (ℕ_discrete x m);
        count = omega (arith, T.count, marked seen m (depth + 1) (omega arith) e (omega arith));
      }
    where
      by : (x i : ℕ) → get_or (set seen m (depth + 1)) x 0 ≡ suc i → Dec (x ≡ m) → ((i < depth) × (get_or src (get_or out i 0) 0 ≡ x)) ⊎ ((i ≡ depth) × (x ≡ m))
      by x i q (yes y) = inr (omega (arith, rw (y, get_or-set_same seen m (depth + 1) 0 (omega arith)) at q), y)
      by x i q (no n) = inl (T.marks x i (sym (get_or-set_other seen m x (depth + 1) 0 n) ∙ q))

  -- ---- a step
  module _ (e : ℕ) (long : length out ≡ 32) (S : Standing src dst kept seen out m depth) (h : e < 256) (f : get_or src e 0 ≡ m) (k : get_or kept e 0 ≡ 0 → ⊥) where
    new : get_or (set out depth e) depth 0 ≡ e
    new = get_or-set_same out depth e 0 (omega (arith, S.count))

    old : (i : ℕ) → i < depth → get_or (set out depth e) i 0 ≡ get_or out i 0
    old i l = get_or-set_other out depth i e 0 (omega arith)

    pub steps : Trail src dst kept seen (set out depth e) (get_or dst e 0) (depth + 1)
    steps =
        record {
          keeps = λ i l. kept_at i (eq-or-lt_of_le (omega arith));
          joined = λ i l. joined i (eq-or-lt_of_le (omega arith));
          last = λ i q. let y : i ≡ depth = omega arith in rw (y, new) refl;
          marks = λ x i q. marks x i (S.marks x i q);
          count = S.count;
        }
      where
        kept_at : (i : ℕ) → (i ≡ depth) ⊎ (i < depth) → (get_or (set out depth e) i 0 < 256) × (get_or kept (get_or (set out depth e) i 0) 0 ≡ 0 → ⊥)
        kept_at i (inl q) = rw (q, new) (h, k)
        kept_at i (inr l) = rw (old i l) (S.keeps i l)

        joined : (i : ℕ) → (i + 1 ≡ depth) ⊎ (i + 1 < depth) → get_or dst (get_or (set out depth e) i 0) 0 ≡ get_or src (get_or (set out depth e) (i + 1) 0) 0
        joined i (inl q) = rw (old i (omega arith), q, new) (S.last i q ∙ sym f)
        joined i (inr l) = rw (old i (omega arith), old (i + 1) l) (S.joined i l)

        marks : (x i : ℕ) → ((i < depth) × (get_or src (get_or out i 0) 0 ≡ x)) ⊎ ((i ≡ depth) × (x ≡ m)) → (i < depth + 1) × (get_or src (get_or (set out depth e) i 0) 0 ≡ x)
        marks x i (inl b) = (omega (arith, b.0), rw (old i b.0) b.1)
        marks x i (inr b) = (omega (arith, b.0), rw (b.0, new) (f ∙ sym b.1))

    -- a member that repeats closes the walk
    pub repeats : (v : ℕ) → suc v ≡ get_or seen (get_or dst e 0) 0 → Stretch src dst kept (set out depth e) v (depth + 1)
    repeats v q =
        let t = steps.marks (get_or dst e 0) v (sym q) in
        let z : depth + 1 - 1 ≡ depth = omega arith in
        record {
          some = t.0;
          few = omega (arith, S.count);
          keeps = steps.keeps;
          joined = steps.joined;
          closed = rw (z, new) (sym t.1);
        }

-- ---- visits as numbers
pub seen-at : (ss : List (Option ℕ)) (x : ℕ) → get_or (seen_of ss) x 0 ≡ seen_no (get_or ss x None)
seen-at ss x = get_or-map seen_no ss x None

module _ (ss : List (Option ℕ)) (m depth : ℕ) where
  put : set (seen_of ss) m (depth + 1) ≡ seen_of (set ss m (Some depth))
  put = ap (λ (x : ℕ). set (seen_of ss) m x) (add-one depth) ∙ sym (map-set seen_no ss m (Some depth))

  pub marked_seen : length ss ≡ 32 → m < 32 → get_or (seen_of ss) m 0 ≡ 0 → unvisited (seen_of ss) ≡ unvisited (seen_of (set ss m (Some depth))) + 1
  marked_seen l h e = rw (← put) (marked (seen_of ss) m (depth + 1) (omega (arith, length-map ss seen_no)) e (omega arith))

  pub stands_seen : (src dst kept out : List ℕ) → length ss ≡ 32 → m < 32 → get_or (seen_of ss) m 0 ≡ 0
      → Trail src dst kept (seen_of ss) out m depth → Standing src dst kept (seen_of (set ss m (Some depth))) out m depth
  stands_seen src dst kept out l h e T = rw (← put) (stands src dst kept (seen_of ss) out m depth (length-map ss seen_no ∙ l) h e T)

-- ---- which edges are kept
module _ (g : ℕ → ℕ → ℕ) (home t d : ℕ) where
  pub keep-late : (d ≡ 0 → ⊥) → keep_of g home t d ≡ 0
  unfolding keep_of
  keep-late n = rw (ne_eqb d 0 n) refl

  pub keep-by : (b : Bool) → d ≡ 0 → b ≡ eqb (g t home) 0 → kept_no b ≡ keep_of g home t d
  unfolding keep_of
  keep-by b e q = rw (eq-eqb d 0 e, ← q) (go b)
    where
      go : (b : Bool) → kept_no b ≡ pick b 1 0
      go true = refl
      go false = refl

  pub keep-only : (keep_of g home t d ≡ 0 → ⊥) → (d ≡ 0) × (g t home ≡ 0)
  unfolding keep_of
  keep-only n = go (ℕ_discrete d 0) (ℕ_discrete (g t home) 0)
    where
      go : Dec (d ≡ 0) → Dec (g t home ≡ 0) → (d ≡ 0) × (g t home ≡ 0)
      go (yes a) (yes b) = (a, b)
      go (yes a) (no b) = absurd (n (rw (eq-eqb d 0 a, ne_eqb (g t home) 0 b) refl))
      go (no a) b = absurd (n (rw (ne_eqb d 0 a) refl))

pub keep-agree : (f g : ℕ → ℕ → ℕ) (home t d : ℕ) → f t home ≡ g t home → keep_of f home t d ≡ keep_of g home t d
unfolding keep_of
keep-agree f g home t d p = rw p refl

module _ (dst delay : List ℕ) (g : ℕ → ℕ → ℕ) (home : ℕ) (was : List ℕ) where
  pub keeping_none : Keeping dst delay 0 g home was was
  keeping_none = record { set = λ i h. absurd (omega arith); rest = λ i h. refl }

  pub keeping-more : (k : ℕ) (kept : List ℕ) (v : ℕ) → k < length kept → Keeping dst delay k g home was kept
      → v ≡ keep_of g home (get_or dst k 0) (get_or delay k 0) → Keeping dst delay (k + 1) g home was (set kept k v)
  keeping-more k kept v l M e =
      record {
        set = λ i h. at i (eq-or-lt_of_le (omega arith));
        rest = λ i h. get_or-set_other kept k i v 0 (omega arith) ∙ M.rest i (omega arith);
      }
    where
      at : (i : ℕ) → (i ≡ k) ⊎ (i < k) → get_or (set kept k v) i 0 ≡ keep_of g home (get_or dst i 0) (get_or delay i 0)
      at i (inl q) = rw q (get_or-set_same kept k v 0 l ∙ e)
      at i (inr h) = get_or-set_other kept k i v 0 (omega arith) ∙ M.set i h

  pub keeping_kept : (k : ℕ) (ks : List Bool) (b : Bool) → k < length ks → Keeping dst delay k g home was (kept_of ks)
      → kept_no b ≡ keep_of g home (get_or dst k 0) (get_or delay k 0) → Keeping dst delay (k + 1) g home was (kept_of (set ks k b))
  keeping_kept k ks b l M e = rw (map-set kept_no ks k b) (keeping-more k (kept_of ks) (kept_no b) (rw (length-map ks kept_no) l) M e)

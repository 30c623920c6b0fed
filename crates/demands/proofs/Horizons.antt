-- What a horizon depends on: the sources' earliest and completed tags, and the member's own grant.
-- Assumes nothing.
use Prim.Native.Nat.{ℕ, ◌<◌, ◌≤◌}
use mathlib.Core.Path.{◌≡◌, refl, sym, ap, ap₂, subst, ◌∙◌}
use mathlib.Core.Bool.{Bool, true, false}
use Rattle.std.proofs.Common.{Option, Some}
use Rattle.demands.specs.Histories.{event_at}
use lib.Dec.{ltb}
use borrow.Author.Tests.{le-ltb}
use Rattle.basis.specs.Choice.{pick}
use Rattle.tags.specs.declared.Tag.{Tag}
use Rattle.tags.specs.declared.Tag.TheVariants.{Forever}
use Rattle.tags.specs.Tags.{tag_le, delayed, pred_of, greatest_of}
use Rattle.tags.proofs.Order.{trans, reflexive}
use Rattle.tags.proofs.Laws.{Small, delay_monotone}
use Rattle.plans.specs.Nets.{Net, none}
use Rattle.states.specs.Sessions.{Member, or_never}
use Rattle.states.specs.Rules.{active, least_to, earliest, over, past, coming, done, arrivals, completions, horizon}
use Rattle.states.proofs.Laws.{Le, picked, greatest-mono, greatest-under, greatest-left, pred_mono, delay-small, least-all, least-mono, least-same}

-- Answered with "at or past" the horizon, as the proof carries it
abbrev pub Settled : Net → (ℕ → Member) → ℕ → Type 0
Settled p v j = (r : ℕ) (e : Tag) → (v j).publication ≡ event_at r e → active (v j) ≡ true → tag_le e (horizon p v j) ≡ true
    → ((v j).revision ≡ Some r) × (tag_le (horizon p v j) (or_never (v j).granted) ≡ true)

-- m' offers others no more than m
pub record Inputs (m m' : Member) : Type 0 where
  pub earlier : Le (earliest m') (earliest m)
  pub tiny : Small (earliest m')
  pub completion : m'.completed ≡ m.completed

-- m' asks for no more than m, and holds the same grant
pub record Own (m m' : Member) : Type 0 where
  pub publication : m'.publication ≡ m.publication
  pub revision : m'.revision ≡ m.revision
  pub granted : m'.granted ≡ m.granted
  pub awake : active m' ≡ true → active m ≡ true

le_of : {x y : Tag} → x ≡ y → Le x y
le_of {x} e = subst (λ (z : Tag). Le x z) e (reflexive x)

over-mono : (d : ℕ) (x y : Tag) → Le x y → Le (over d x) (over d y)
unfolding over
over-mono d x y h = go (ltb d none)
  where
    go : (b : Bool) → Le (pick b (delayed x d) Forever) (pick b (delayed y d) Forever)
    go true = delay_monotone x y d h
    go false = refl

over-small : (d : ℕ) (x : Tag) → Small x → Small (over d x)
unfolding over
over-small d x h = picked Small (ltb d none) (delayed x d) Forever (delay-small x d h) tt

over_none : (d : ℕ) (x : Tag) → none ≤ d → over d x ≡ Forever
unfolding over
over_none d x h = rw (le-ltb d none h)

past-none : (d : ℕ) (x : Tag) → none ≤ d → past d x ≡ Forever
unfolding past
past-none d x h = rw (le-ltb d none h)

module _ (p : Net) (v v' : ℕ → Member) (j : ℕ) where
  pub arrivals-low : ((i : ℕ) → i < p.count → Inputs (v i) (v' i)) → Le (arrivals p v' j) (arrivals p v j)
  unfolding arrivals
  arrivals-low h =
      pred_mono (least_to p.count (coming p v' j)) (least_to p.count (coming p v j))
      (least-all Small p.count (coming p v' j) tt (λ i l. over-small _ (earliest (v' i)) (h i l).tiny))
      (least-mono p.count (coming p v' j) (coming p v j) (λ i l. over-mono _ (earliest (v' i)) (earliest (v i)) (h i l).earlier))

  pub completions-same : ((i : ℕ) → i < p.count → Inputs (v i) (v' i)) → completions p v' j ≡ completions p v j
  unfolding completions
  completions-same h = least-same p.count (done p v' j) (done p v j) (λ i l. ap (λ (x : Option Tag). past (p.direct i j) (or_never x)) (h i l).completion)

  pub horizon-low : ((i : ℕ) → i < p.count → Inputs (v i) (v' i)) → (v' j).granted ≡ (v j).granted → Le (horizon p v' j) (horizon p v j)
  unfolding horizon
  horizon-low h g =
      greatest-mono (greatest_of (arrivals p v' j) (completions p v' j)) (or_never (v' j).granted) (greatest_of (arrivals p v j) (completions p v j)) (or_never (v j).granted)
      (greatest-mono (arrivals p v' j) (completions p v' j) (arrivals p v j) (completions p v j) (arrivals-low h) (le_of (completions-same h)))
      (le_of (ap or_never g))

  -- where inputs and own state are so, who was settled still is
  pub still-settled : ((i : ℕ) → i < p.count → Inputs (v i) (v' i)) → Own (v j) (v' j) → Settled p v j → Settled p v' j
  still-settled h own s r e q a reach =
      let low = horizon-low h own.granted in
      let t = s r e (sym own.publication ∙ q) (own.awake a) (trans e (horizon p v' j) (horizon p v j) reach low) in
      (own.revision ∙ t.0, trans (horizon p v' j) (or_never (v j).granted) (or_never (v' j).granted) (trans (horizon p v' j) (horizon p v j) (or_never (v j).granted) low t.1) (le_of (ap or_never (sym own.granted))))

  -- a grant at the old horizon reaches the new one
  pub horizon-granted : ((i : ℕ) → i < p.count → Inputs (v i) (v' i)) → or_never (v' j).granted ≡ horizon p v j → Le (horizon p v' j) (horizon p v j)
  unfolding horizon
  horizon-granted h g =
      let a = arrivals p v j in
      let c = completions p v j in
      let u = greatest_of a c in
      greatest-under (greatest_of (arrivals p v' j) (completions p v' j)) (or_never (v' j).granted) (horizon p v j)
      (trans (greatest_of (arrivals p v' j) (completions p v' j)) u (horizon p v j)
      (greatest-mono (arrivals p v' j) (completions p v' j) a c (arrivals-low h) (le_of (completions-same h)))
      (greatest-left u (or_never (v j).granted)))
      (le_of g)

  -- a member whose sources and own record have not changed
  pub horizon-same : ((i : ℕ) → i < p.count → coming p v' j i ≡ coming p v j i) → ((i : ℕ) → i < p.count → done p v' j i ≡ done p v j i) → v' j ≡ v j → horizon p v' j ≡ horizon p v j
  unfolding horizon arrivals completions
  horizon-same c d e =
      ap₂ greatest_of
      (ap₂ greatest_of (ap pred_of (least-same p.count (coming p v' j) (coming p v j) c)) (least-same p.count (done p v' j) (done p v j) d))
      (ap (λ (m : Member). or_never m.granted) e)

  pub same-settled : horizon p v' j ≡ horizon p v j → v' j ≡ v j → Settled p v j → Settled p v' j
  same-settled h e s r t q a reach = let k = s r t (rw e at q) (rw e at a) (rw h at reach) in (rw e k.0, rw (h, e) k.1)

-- the two halves of "no way leads there"
pub coming-none : (p : Net) (v v' : ℕ → Member) (j i : ℕ) → none ≤ p.minimum i j → coming p v' j i ≡ coming p v j i
coming-none p v v' j i h = over_none (p.minimum i j) (earliest (v' i)) h ∙ sym (over_none (p.minimum i j) (earliest (v i)) h)

pub done_none : (p : Net) (v v' : ℕ → Member) (j i : ℕ) → none ≤ p.direct i j → done p v' j i ≡ done p v j i
done_none p v v' j i h = past-none (p.direct i j) (or_never (v' i).completed) h ∙ sym (past-none (p.direct i j) (or_never (v i).completed) h)

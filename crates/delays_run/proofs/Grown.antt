-- A plan with one edge more fits, and small capacities are seen by computation.
-- Assumes nothing.
use mathlib.Core.Bool.{Bool, true, false}
use mathlib.Core.Path.{◌≡◌, refl}
use mathlib.Core.List.{List, [], ◌∷◌}
use Prim.Native.Nat.{ℕ, zero, suc, ◌+◌, ◌<◌, ◌≤◌}
use native.Mathlib.Omega.{arith}
use native.Mathlib.Decide.{ℕ_discrete}
use borrow.Author.Tests.{leb-true}
use lib.Dec.{leb}
use lib.ListN.{length, get_or, set, length-set}
use lib.Seq.{get_or-set_same, get_or-set_other}
use Rattle.basis.specs.Choice.{both}
use Rattle.plans.specs.declared.Plan.{Plan}
use Rattle.plans.specs.Values.{Fits}
use Rattle.delays_run.specs.Built.{Built}

-- every element is at most 32
abbrev pub small : List ℕ → Bool
small [] = true
small (x ∷ l) = both (leb x 32) (small l)

first_of : (a b : Bool) → both a b ≡ true → a ≡ true
first_of true b e = refl
first_of false b e = e

second-of : (a b : Bool) → both a b ≡ true → b ≡ true
second-of true b e = e
second-of false b e = absurd (let z : ◌≡◌ {A = ℕ} 0 1 = cc in omega arith)

pub small_at : (l : List ℕ) → small l ≡ true → (i : ℕ) → get_or l i 0 ≤ 32
small_at [] e i = omega arith
small_at (x ∷ l) e zero = leb-true x 32 (first_of (leb x 32) (small l) e)
small_at (x ∷ l) e (suc i) = small_at l (second-of (leb x 32) (small l) e) i

-- k places of 0
abbrev pub zeros : ℕ → List ℕ
zeros zero = []
zeros (suc k) = 0 ∷ zeros k

-- an element more below n
below : (l : List ℕ) (m n x : ℕ) → m < length l → x < n → ((k : ℕ) → k < m → get_or l k 0 < n) → (k : ℕ) → k < m + 1 → get_or (set l m x) k 0 < n
below l m n x h a all k b = go (ℕ_discrete k m)
  where
    go : Dec (k ≡ m) → get_or (set l m x) k 0 < n
    go (yes e) = rw e (rw (get_or-set_same l m x 0 h) a)
    go (no e) = rw (get_or-set_other l m k x 0 e) (all k (omega arith))

pub grown : (p : Plan) (s t d r : ℕ) → Fits p → p.edges < 256 → s < p.members → t < p.members
    → Built
    (record {
      members = p.members;
      edges = p.edges + 1;
      ids = p.ids;
      capacities = p.capacities;
      routes = set p.routes p.edges r;
      sources = set p.sources p.edges s;
      targets = set p.targets p.edges t;
      delays = set p.delays p.edges d;
    })
    p.members (p.edges + 1)
grown p s t d r F e a b =
    record {
      fits = record {
        few = F.few;
        routed = omega arith;
        ids = F.ids;
        capacities = F.capacities;
        routes = simp length-set F.routes;
        sources = simp length-set F.sources;
        targets = simp length-set F.targets;
        delays = simp length-set F.delays;
        from = below p.sources p.edges p.members s (omega (arith, F.sources)) a F.from;
        to = below p.targets p.edges p.members t (omega (arith, F.targets)) b F.to;
        small = F.small;
      };
      members = refl;
      edges = refl;
    }

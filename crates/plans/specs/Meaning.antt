-- What a plan that is read means, place by place.
-- Assumes nothing.
use Rattle.std.specs.Prelude.{ℕ, ◌<◌, Bool, true, false, ◌≡◌, ◌⊎◌, List, length, get_or}
use Rattle.plans.specs.Rows.{member_count, edge_count, member_at, edge_at}
use Rattle.plans.specs.Order.{member_before, edge_before}
use Rattle.plans.specs.Reading.{members_of, edges_of}
use Rattle.plans.specs.declared.Member.{Member}
use Rattle.plans.specs.declared.Edge.{Edge}
use Rattle.plans.specs.declared.Plan.{Plan}

-- the laws of a comparison: all that the order of members and of edges rests on
pub record Comparison {A : Type 0} (before : A → A → Bool) (id : A → ℕ) : Type 0 where
  pub irreflexive : (x : A) → before x x ≡ false
  pub transitive : (x y z : A) → before x y ≡ true → before y z ≡ true → before x z ≡ true
  pub total : (x y : A) → (id x ≡ id y → ⊥) → (before x y ≡ true) ⊎ (before y x ≡ true)

-- l holds rows 0 to n - 1, each of them and no other, strictly ascending
pub record Ordered {A : Type 0} (before : A → A → Bool) (row : ℕ → A) (n : ℕ) (l : List A) : Type 0 where
  pub count : length l ≡ n
  pub ascending : (i j : ℕ) (d : A) → i < j → j < n → before (get_or l i d) (get_or l j d) ≡ true
  pub given : (i : ℕ) (d : A) → i < n → (j : ℕ) × (j < n) × (get_or l i d ≡ row j)
  pub held : (j : ℕ) (d : A) → j < n → (i : ℕ) × (i < n) × (get_or l i d ≡ row j)

-- Members ascending by id, edges ascending by id; the plan has them place by place, and an edge's ends are the positions
-- at which the declared ids stand
pub record Meant (b : List ℕ) (p : Plan) : Type 0 where
  pub members : Ordered member_before (member_at b) (member_count b) (members_of b)
  pub edges : Ordered edge_before (edge_at b) (edge_count b) (edges_of b)
  pub membered : p.members ≡ member_count b
  pub edged : p.edges ≡ edge_count b
  pub ids : (i : ℕ) (d : Member) → i < member_count b → get_or p.ids i 0 ≡ (get_or (members_of b) i d).id
  pub capacities : (i : ℕ) (d : Member) → i < member_count b → get_or p.capacities i 0 ≡ (get_or (members_of b) i d).capacity
  pub routes : (k : ℕ) (d : Edge) → k < edge_count b → get_or p.routes k 0 ≡ (get_or (edges_of b) k d).id
  pub delays : (k : ℕ) (d : Edge) → k < edge_count b → get_or p.delays k 0 ≡ (get_or (edges_of b) k d).delay
  pub sources : (k : ℕ) (d : Edge) → k < edge_count b → get_or p.ids (get_or p.sources k 0) 0 ≡ (get_or (edges_of b) k d).source
  pub targets : (k : ℕ) (d : Edge) → k < edge_count b → get_or p.ids (get_or p.targets k 0) 0 ≡ (get_or (edges_of b) k d).target

-- One pass over all transitive rows gives the bound of every member.
-- Assumes nothing.
use Prim.Native.Nat.{ℕ, zero, suc, ◌+◌, ◌≤◌, ◌<◌}
use mathlib.Core.Path.{◌≡◌, refl, sym, ◌∙◌}
use mathlib.Core.Logic.{⊎_elim}
use mathlib.Core.Bool.{Bool}
use mathlib.Core.List.{List}
use native.Mathlib.Omega.{arith}
use lib.Dec.{ltb, eqb}
use Rattle.std.proofs.lemmas.Bool.Decides.{nat_tests}
use Rattle.std.proofs.lemmas.Grind.{common_steps}
use lib.ListN.{length, get_or, set, length-replicate, get_or-replicate}
use lib.Seq.{get_or-set_same, get_or-set_other}
use borrow.Author.Tests.{lt-ltb}
use Rattle.basis.specs.Choice.{pick, not, both}
use Rattle.tags.specs.declared.Tag.{Tag}
use Rattle.tags.specs.declared.Tag.TheVariants.{Never, Forever}
use Rattle.tags.specs.Tags.{least_of, less_of}
use Rattle.plans.specs.Nets.{none, downstream}
use Rattle.states.specs.Sessions.{Member}
use Rattle.states.specs.Rules.{least_to, earliest, bound_of}
use Rattle.states.proofs.Laws.{which}
use Rattle.rows.specs.Rows.{Laid, members, transitive_source, transitive_delay, transitive_first, transitive_count}
use Rattle.rows.specs.Loops.{over_rows, delay_of, Ascends}
use Rattle.rows.specs.Nets.{net_in, minimum_in, Ordered}
use Rattle.rows.proofs.Loops.{least-forever, unnamed, last-named, last-other, ascends-less}
use Rattle.members.specs.Rules.{Mild, lower, bounds_to, bounds_in}
use Rattle.members.proofs.Rules.{Earliests}

-- ---- rows whose sources ascend lower each of them once
module _ (name delay : ℕ → ℕ) (first : ℕ) (t : Tag) (j : ℕ) where
  -- one row
  abbrev row : List Tag → ℕ → List Tag
  row bs k = set bs (name k) (lower (get_or bs (name k) Never) t (delay k) (eqb (name k) j))

  pub length-rows : (c : ℕ) (bs : List Tag) → length (over_rows row first c bs) ≡ length bs
  unfolding over_rows
  length-rows zero bs = refl
  length-rows (suc c) bs = grind (arith, common_steps, length-rows c bs)

  -- what the rows leave at place i
  abbrev at_place : ℕ → List Tag → ℕ → Tag
  at_place d bs i = pick (ltb d none) (lower (get_or bs i Never) t d (eqb i j)) (get_or bs i Never)

  pub rows-lower : (c n i : ℕ) (bs : List Tag) → Ascends name first c n → n ≤ length bs → ((k : ℕ) → k < c → delay (first + k) < none)
      → get_or (over_rows row first c bs) i Never ≡ at_place (delay_of name delay first c i) bs i
  unfolding over_rows
  rows-lower zero n i bs up long small = rw (unnamed name delay first 0 i (λ c k. absurd (omega arith))) refl
  rows-lower (suc c) n i bs up long small =
      let z = up.inside c (omega arith) in
      let s = small c (omega arith) in
      let more = length-rows c bs in
      let before = rows-lower c (name (first + c)) i bs (ascends-less name delay first c n up) (omega arith) (λ a l. small a (omega arith)) in
      ⊎_elim
      (λ (e : name (first + c) ≡ i).
      let fresh : delay_of name delay first c i ≡ none = unnamed name delay first c i (λ a l q. let y = up.up a c l (omega arith) in omega arith) in
      rw (last-named name delay first c i e, lt-ltb (delay (first + c)) none s) (rw e (get_or-set_same (over_rows row first c bs) i _ Never (omega arith) ∙ rw (before, fresh) refl)))
      (λ (e : name (first + c) ≡ i → ⊥). rw (last-other name delay first c i e) (get_or-set_other (over_rows row first c bs) (name (first + c)) i _ Never (λ q. e (sym q)) ∙ before))
      (which (name (first + c)) i)

-- a member's own row asks nothing, nor does one that is not there
asked : (a c : Bool) (x y : Tag) → pick a (pick c x (least_of x y)) x ≡ least_of x (pick (both a (not c)) y Forever)
asked a c x y = grind (arith, least-forever x)

turned : (i j : ℕ) → eqb i j ≡ eqb j i
turned i j = grind (arith, nat_tests)

module _ (b : List ℕ) (laid : Laid b) (ordered : Ordered b) (mild : Mild b) where
  length_to : (t : Tag) (j : ℕ) (bs : List Tag) → length (bounds_to b t j (transitive_count b j) bs) ≡ length bs
  unfolding bounds_to
  length_to t j bs = length-rows (transitive_source b) (transitive_delay b) (transitive_first b j) t j (transitive_count b j) bs

  -- the rows of target j
  to_one : (t : Tag) (i j : ℕ) (bs : List Tag) → j < members b → members b ≤ length bs
      → get_or (bounds_to b t j (transitive_count b j) bs) i Never ≡ least_of (get_or bs i Never) (pick (downstream (net_in b) i j) (less_of t ((net_in b).minimum i j)) Forever)
  unfolding bounds_to net_in minimum_in downstream
  to_one t i j bs l long =
      let d = delay_of (transitive_source b) (transitive_delay b) (transitive_first b j) (transitive_count b j) i in
      rows-lower (transitive_source b) (transitive_delay b) (transitive_first b j) t j (transitive_count b j) (members b) i bs (ordered.transitives j l) long
      (λ c m. let q = laid.transitive-rows.at j l in let r = mild.transitive (transitive_first b j + c) (omega arith) in omega arith)
      ∙ asked (ltb d none) (eqb i j) (get_or bs i Never) (less_of t d)
      ∙ rw (turned i j) refl

  pub length-bounds : (es : List Tag) (n : ℕ) → length (bounds_in b es n) ≡ 32
  unfolding bounds_in
  length-bounds es zero = length-replicate 32 Forever
  length-bounds es (suc j) = length_to (get_or es j Never) j (bounds_in b es j) ∙ length-bounds es j

  -- what is asked of i by target j
  abbrev asks : (ℕ → Member) → ℕ → ℕ → Tag
  asks v i j = pick (downstream (net_in b) i j) (less_of (earliest (v j)) ((net_in b).minimum i j)) Forever

  to-all : (v : ℕ → Member) (es : List Tag) → Earliests v es → (i n : ℕ) → i < members b → n ≤ members b → get_or (bounds_in b es n) i Never ≡ least_to n (asks v i)
  unfolding bounds_in least_to
  to-all v es e i zero l m = get_or-replicate 32 i Forever Never (let few = laid.few-members in omega arith)
  to-all v es e i (suc j) l m =
      let few = laid.few-members in
      rw (to_one (get_or es j Never) i j (bounds_in b es j) (omega arith) (omega (arith, length-bounds es j)), e.at j, to-all v es e i j l (omega arith)) refl

  -- The bound of member i, over the members of a session
  pub bounds-rows : (v : ℕ → Member) (es : List Tag) → Earliests v es → (i : ℕ) → i < members b → get_or (bounds_in b es (members b)) i Never ≡ bound_of (net_in b) v i
  unfolding bound_of net_in
  bounds-rows v es e i l = to-all v es e i (members b) l (omega arith)

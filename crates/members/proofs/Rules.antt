-- The loops over rows are the rules of a session: horizon and bound over all members.
-- Assumes nothing.
use Prim.Native.Nat.{ℕ, zero, suc, ◌+◌, ◌≤◌, ◌<◌}
use mathlib.Core.Path.{◌≡◌, refl, sym, ap, subst, ◌∙◌}
use mathlib.Core.Logic.{⊎_elim}
use mathlib.Core.Bool.{Bool}
use mathlib.Core.List.{List, [], ◌∷◌}
use Rattle.std.proofs.Common.{Option, Some, None}
use Rattle.std.proofs.lemmas.Bool.{cases_lt}
use Rattle.std.proofs.lemmas.Grind.{common_steps}
use native.Mathlib.Omega.{arith}
use native.Mathlib.Nat.{not-suc-le-zero}
use lib.Dec.{ltb}
use lib.ListN.{length, get_or, replicate, length-replicate, get_or-replicate, get_or-eq_default}
use Rattle.basis.specs.Choice.{pick}
use Rattle.tags.specs.declared.Tag.{Tag}
use Rattle.tags.specs.declared.Tag.TheVariants.{Never, Finite, Forever}
use Rattle.tags.specs.Tags.{tag_le, least_of, delayed}
use Rattle.transit.specs.Tags.{first_of}
use Rattle.plans.specs.Nets.{Net, none}
use Rattle.states.specs.declared.Publication.{Publication}
use Rattle.states.specs.declared.State.{State}
use Rattle.states.specs.Sessions.{Member, Session, blank, or_never, view}
use Rattle.states.specs.Rules.{least_to, expected, awaited, earliest, over, past, coming, arrivals, done, completions, horizon}
use Rattle.states.specs.Formed.{Word, Words, WordNext, WordLimit, WellFormed, Sound}
use Rattle.states.proofs.Laws.{picked}
use Rattle.rows.specs.Rows.{Laid, members, direct_source, direct_delay, direct_first, direct_count, transitive_source, transitive_delay, transitive_first, transitive_count}
use Rattle.rows.specs.Nets.{net_in, direct_in, minimum_in, Ordered}
use Rattle.rows.proofs.Loops.{rows-least}
use Rattle.members.specs.Codes.{session_of}
use Rattle.members.specs.Rules.{Low, AllLow, Mild, tags_to, earliest_at, completed_at, coming_in, done_in, horizon_in}
use Rattle.members.proofs.Codes.{session-length, view-at}

-- ---- tags by position
pub length-tags : (f : ℕ → Tag) (k : ℕ) → length (tags_to f k) ≡ 32
unfolding tags_to
length-tags f zero = length-replicate 32 Never
length-tags f (suc k) = grind (arith, common_steps, length-tags f k)

pub tags-at : (f : ℕ → Tag) (k i : ℕ) → k ≤ 32 → i < k → get_or (tags_to f k) i Never ≡ f i
unfolding tags_to
tags-at f zero i few l = absurd (not-suc-le-zero l)
tags-at f (suc k) i few l = grind (arith, common_steps, length-tags f k, tags-at f k i)

pub tags-after : (f : ℕ → Tag) (k i : ℕ) → k ≤ i → get_or (tags_to f k) i Never ≡ Never
unfolding tags_to
tags-after f zero i l = ⊎_elim (λ (m : i < 32). get_or-replicate 32 i Never Never m) (λ (m : 32 ≤ i). get_or-eq_default (replicate 32 Never) Never m) (cases_lt i 32)
tags-after f (suc k) i l = grind (arith, common_steps, tags-after f k i)

-- a list of the members' earliest tags, and one of what they completed
pub record Earliests (v : ℕ → Member) (ts : List Tag) : Type 0 where
  pub at : (i : ℕ) → get_or ts i Never ≡ earliest (v i)

pub record Completeds (v : ℕ → Member) (ts : List Tag) : Type 0 where
  pub at : (i : ℕ) → get_or ts i Never ≡ or_never (v i).completed

blank-earliest : earliest blank ≡ Never
unfolding earliest
blank-earliest = refl

view-past : (x : Session) (i : ℕ) → length x.members ≤ i → view x i ≡ blank
view-past x i l = get_or-eq_default x.members blank l

-- such are the lists made from a state and its slab
module _ (s : State) (slab : List ℕ) (few : s.count ≤ 32) where
  pub earliests : Earliests (view (session_of s slab)) (tags_to (earliest_at s slab) s.count)
  earliests = record { at = at }
    where
      at : (i : ℕ) → get_or (tags_to (earliest_at s slab) s.count) i Never ≡ earliest (view (session_of s slab) i)
      at i = ⊎_elim
          (λ (l : i < s.count). tags-at (earliest_at s slab) s.count i few l ∙ ap earliest (sym (view-at s slab i l)))
          (λ (l : s.count ≤ i). tags-after (earliest_at s slab) s.count i l ∙ sym blank-earliest ∙ ap earliest (sym (view-past (session_of s slab) i (omega (arith, session-length s slab)))))
          (cases_lt i s.count)

  pub completeds : Completeds (view (session_of s slab)) (tags_to (completed_at s) s.count)
  completeds = record { at = at }
    where
      at : (i : ℕ) → get_or (tags_to (completed_at s) s.count) i Never ≡ or_never (view (session_of s slab) i).completed
      at i = ⊎_elim
          (λ (l : i < s.count). tags-at (completed_at s) s.count i few l ∙ ap (λ (m : Member). or_never m.completed) (sym (view-at s slab i l)))
          (λ (l : s.count ≤ i). tags-after (completed_at s) s.count i l ∙ ap (λ (m : Member). or_never m.completed) (sym (view-past (session_of s slab) i (omega (arith, session-length s slab)))))
          (cases_lt i s.count)

-- ---- their offsets are at most L
low_word : (t : Tag) → Word t → Low t
low_word Never h = absurd h
low_word (Finite o m) h = h.0
low_word Forever h = absurd h

low_first : (ts : List Tag) → Words ts → Low (first_of ts)
low_first [] h = tt
low_first (t ∷ ts) h = low_word t h.0

low-limit : (l : Option Tag) → WordLimit l → Low (or_never l)
low-limit None h = tt
low-limit (Some t) h = low_word t h

low-expected : (e : Option Tag) → WordLimit e → Low (expected e)
low-expected None h = tt
low-expected (Some t) h = low_word t h

low-awaited : (p : Option Publication) → WordNext p → Low (awaited p)
low-awaited None h = tt
low-awaited (Some p) h = low-expected p.next h

low-earliest : (c : ℕ) (m : Member) → WellFormed c m → Low (earliest m)
unfolding earliest
low-earliest c m h = picked Low (tag_le (awaited m.publication) (first_of m.transit)) (awaited m.publication) (first_of m.transit) (low-awaited m.publication h.event) (low_first m.transit h.words)

module _ (p : Net) (x : Session) (sound : Sound p x) (ts : List Tag) where
  pub earliests-low : Earliests (view x) ts → AllLow ts
  earliests-low h = record { at = λ i. subst Low (sym (h.at i)) (at i) }
    where
      at : (i : ℕ) → Low (earliest (view x i))
      at i = ⊎_elim (λ (l : i < p.count). low-earliest (p.capacity i) (view x i) (sound.each i l))
          (λ (l : p.count ≤ i). subst (λ (m : Member). Low (earliest m)) (sym (view-past x i (omega (arith, sound.count)))) (subst Low (sym blank-earliest) tt)) (cases_lt i p.count)

  pub completeds-low : Completeds (view x) ts → AllLow ts
  completeds-low h = record { at = λ i. subst Low (sym (h.at i)) (at i) }
    where
      at : (i : ℕ) → Low (or_never (view x i).completed)
      at i = ⊎_elim (λ (l : i < p.count). low-limit (view x i).completed (sound.each i l).completion)
          (λ (l : p.count ≤ i). subst (λ (m : Member). Low (or_never m.completed)) (sym (view-past x i (omega (arith, sound.count)))) tt) (cases_lt i p.count)

-- ---- the horizon
twice : (c : Bool) (t : Tag) → pick c t Forever ≡ pick c (pick c t Forever) Forever
twice c t = grind arith

module _ (b : List ℕ) (laid : Laid b) (ordered : Ordered b) (mild : Mild b) (v : ℕ → Member) where
  pub coming-rows : (es : List Tag) → Earliests v es → (j : ℕ) → j < members b → coming_in b es j (transitive_count b j) ≡ least_to (members b) (coming (net_in b) v j)
  unfolding coming_in net_in minimum_in over least_to
  coming-rows es e j l =
      rows-least (transitive_source b) (transitive_delay b) (transitive_first b j) (transitive_count b j) (members b) (λ i d. delayed (get_or es i Never) d)
      (λ k. least_to k (coming (net_in b) v j)) (ordered.transitives j l)
      (λ c m. let q = laid.transitive-rows.at j l in let r = mild.transitive (transitive_first b j + c) (omega arith) in omega arith)
      refl (λ k. rw (e.at k) refl)

  pub done-rows : (ds : List Tag) → Completeds v ds → (j : ℕ) → j < members b → done_in b ds j (direct_count b j) ≡ least_to (members b) (done (net_in b) v j)
  unfolding done_in net_in direct_in past least_to
  done-rows ds d j l =
      rows-least (direct_source b) (direct_delay b) (direct_first b j) (direct_count b j) (members b) (λ i w. past w (get_or ds i Never))
      (λ k. least_to k (done (net_in b) v j)) (ordered.directs j l)
      (λ c m. let q = laid.direct-rows.at j l in let r = mild.direct (direct_first b j + c) (omega arith) in omega arith)
      refl (λ k. rw (d.at k) (ap (least_of (least_to k (done (net_in b) v j))) (twice (ltb (direct_in b k j) none) _)))

  -- Horizon, over the members of a session
  pub horizon-rows : (es ds : List Tag) → Earliests v es → Completeds v ds → (j : ℕ) → j < members b → horizon_in b es ds (or_never (v j).granted) j ≡ horizon (net_in b) v j
  unfolding horizon_in horizon arrivals completions net_in
  horizon-rows es ds e d j l = rw (coming-rows es e j l, done-rows ds d j l) refl

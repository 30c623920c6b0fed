-- Laws of the lists: a place is in exactly if it passes, places ascend, and no list is longer than the members.
-- Assumes nothing.
use mathlib.Core.Bool.{Bool, true, false}
use mathlib.Core.Path.{◌≡◌, refl, ap, ◌∙◌}
use mathlib.Core.Logic.{◌⊎◌, ⊎_elim, inl, inr, ◌↔◌, ◌≢◌}
use mathlib.Core.List.{List, [], ◌∷◌, ◌++◌, append-nil}
use Prim.Native.Nat.{ℕ, zero, suc, ◌<◌, ◌≤◌}
use native.Mathlib.Omega.{arith}
use native.Mathlib.Nat.{eq-or-lt_of_le}
use native.Mathlib.Decide.{ℕ_discrete}
use borrow.Author.Tests.{ltb-true, lt-ltb, eq-eqb, ne_eqb}
use lib.Dec.{ltb, eqb}
use lib.ListN.{length, length-append}
use Rattle.basis.specs.Choice.{pick, not, both}
use Rattle.plans.specs.declared.Plan.{Plan}
use Rattle.delays.specs.Graph.{far, minimum_of}
use Rattle.delays.specs.Lists.{Source, passing, sourced, reached, downstream}

-- x stands in the list
pub data In {A : Type 0} (x : A) : List A → Type 0 where
  here : {xs : List A} → In x (x ∷ xs)
  later : {y : A} {xs : List A} → In x xs → In x (y ∷ xs)

in_left : {A : Type 0} {x : A} {xs : List A} (ys : List A) → In x xs → In x (xs ++ ys)
in_left ys here = here
in_left ys (later h) = later (in_left ys h)

in_right : {A : Type 0} {x : A} (xs : List A) {ys : List A} → In x ys → In x (xs ++ ys)
in_right [] h = h
in_right (z ∷ xs) h = later (in_right xs h)

in_either : {A : Type 0} {x : A} (xs : List A) {ys : List A} → In x (xs ++ ys) → In x xs ⊎ In x ys
in_either [] h = inr h
in_either (z ∷ xs) here = inl here
in_either (z ∷ xs) (later h) = ⊎_elim (λ l. inl (later l)) (λ r. inr r) (in_either xs h)

nothing : {x : ℕ} → In x [] → ⊥
nothing = elim [ ]

nowhere : {x : Source} → In x [] → ⊥
nowhere = elim [ ]

-- a position is in exactly if it passes
module _ (test : ℕ → Bool) where
  one : (b : Bool) (k x : ℕ) → In x (pick b (k ∷ []) []) → (x ≡ k) × (b ≡ true)
  one true k x here = (refl, refl)
  one true k x (later h) = absurd (nothing h)
  one false k x h = absurd (nothing h)

  pub passing-only : (n x : ℕ) → In x (passing test n) → (x < n) × (test x ≡ true)
  unfolding passing
  passing-only zero x h = absurd (nothing h)
  passing-only (suc k) x h =
      ⊎_elim
      (λ l. let r = passing-only k x l in (omega arith, r.1))
      (λ r. let q = one (test k) k x r in (omega (arith, q.0), ap test q.0 ∙ q.1))
      (in_either (passing test k) h)

  pub passing-all : (n x : ℕ) → x < n → test x ≡ true → In x (passing test n)
  unfolding passing
  passing-all zero x h e = absurd (omega arith)
  passing-all (suc k) x h e =
      ⊎_elim
      (λ q. in_right (passing test k) (rw (← q, e) here))
      (λ l. in_left _ (passing-all k x l e))
      (eq-or-lt_of_le (omega arith))

  pub passing-length : (n : ℕ) → length (passing test n) ≤ n
  unfolding passing
  passing-length zero = omega arith
  passing-length (suc k) = rw length-append (omega (arith, passing-length k, short (test k) k))
    where
      short : (b : Bool) (k : ℕ) → length (pick b (k ∷ []) []) ≤ 1
      short true k = omega arith
      short false k = omega arith

-- each is below the next
pub data Ascends : List ℕ → Type 0 where
  nil : Ascends []
  single : {x : ℕ} → Ascends (x ∷ [])
  more : {x y : ℕ} {l : List ℕ} → x < y → Ascends (y ∷ l) → Ascends (x ∷ (y ∷ l))

ascends-on : (l : List ℕ) (k : ℕ) → Ascends l → ((x : ℕ) → In x l → x < k) → Ascends (l ++ (k ∷ []))
ascends-on [] k a h = single
ascends-on (x ∷ []) k a h = more (h x here) single
ascends-on (x ∷ (y ∷ l)) k (more b a) h = more b (ascends-on (y ∷ l) k a (λ z i. h z (later i)))

pub passing-ascends : (test : ℕ → Bool) (n : ℕ) → Ascends (passing test n)
unfolding passing
passing-ascends test zero = nil
passing-ascends test (suc k) = go (test k) (passing-ascends test k)
  where
    same : (l : List ℕ) → Ascends l → Ascends (l ++ [])
    same l a = rw append-nil a

    go : (b : Bool) → Ascends (passing test k) → Ascends (passing test k ++ pick b (k ∷ []) [])
    go true a = ascends-on (passing test k) k a (λ x i. (passing-only test k x i).0)
    go false a = same (passing test k) a

-- the members of a list of sources
pub members : List Source → List ℕ
members [] = []
members (x ∷ l) = x.source ∷ members l

members_append : (l m : List Source) → members (l ++ m) ≡ members l ++ members m
unfolding members
members_append [] m = refl
members_append (x ∷ l) m = ap (λ (r : List ℕ). x.source ∷ r) (members_append l m)

module _ (f : ℕ → ℕ) where
  -- they are those that have a delay, so they ascend
  pub sourced-members : (n : ℕ) → members (sourced f n) ≡ passing (λ (s : ℕ). ltb (f s) far) n
  unfolding sourced passing members
  sourced-members zero = refl
  sourced-members (suc k) =
      members_append (sourced f k) _ ∙ go (ltb (f k) far) (sourced-members k)
    where
      go : (b : Bool) → members (sourced f k) ≡ passing (λ (s : ℕ). ltb (f s) far) k
          → members (sourced f k) ++ members (pick b (record { source = k; delay = f k } ∷ []) []) ≡ passing (λ (s : ℕ). ltb (f s) far) k ++ pick b (k ∷ []) []
      go true e = rw e refl
      go false e = rw e refl

  pub sourced-ascends : (n : ℕ) → Ascends (members (sourced f n))
  sourced-ascends n = rw sourced-members (passing-ascends (λ (s : ℕ). ltb (f s) far) n)

  alone : (b : Bool) (k : ℕ) (x : Source) → In x (pick b (record { source = k; delay = f k } ∷ []) []) → (x ≡ record { source = k; delay = f k }) × (b ≡ true)
  alone true k x here = (refl, refl)
  alone true k x (later h) = absurd (nowhere h)
  alone false k x h = absurd (nowhere h)

  -- a source is in exactly if it has a delay, with that delay
  pub sourced-only : (n : ℕ) (x : Source) → In x (sourced f n) → (x.source < n) × (f x.source < far) × (x.delay ≡ f x.source)
  unfolding sourced
  sourced-only zero x h = absurd (nowhere h)
  sourced-only (suc k) x h =
      ⊎_elim
      (λ l. let r = sourced-only k x l in (omega arith, r.1, r.2))
      (λ r. let q = alone (ltb (f k) far) k x r in rw q.0 (omega arith, ltb-true (f k) far q.1, refl))
      (in_either (sourced f k) h)

  pub sourced-all : (n s : ℕ) → s < n → f s < far → In (record { source = s; delay = f s }) (sourced f n)
  unfolding sourced
  sourced-all zero s h e = absurd (omega arith)
  sourced-all (suc k) s h e =
      ⊎_elim
      (λ q. in_right (sourced f k) (rw (← q, lt-ltb (f s) far e) here))
      (λ l. in_left _ (sourced-all k s l e))
      (eq-or-lt_of_le (omega arith))

-- downstream never holds the member itself
pub downstream-other : (p : Plan) (s : ℕ) → In s (downstream p s) → ⊥
unfolding downstream reached
downstream-other p s h =
    let r = passing-only (reached p s) p.members s h in
    let z : ◌≡◌ {A = ℕ} 0 1 = go (eqb s s) (eq-eqb s s refl) r.1 in
    omega arith
  where
    go : (b : Bool) → b ≡ true → both (not b) (ltb (minimum_of p s s) far) ≡ true → ◌≡◌ {A = ℕ} 0 1
    go true e q = cc
    go false e q = cc

reached-only : (p : Plan) (s t : ℕ) → reached p s t ≡ true → (t ≢ s) × (minimum_of p s t < far)
unfolding reached
reached-only p s t e = go (ℕ_discrete t s)
  where
    go : Dec (t ≡ s) → (t ≢ s) × (minimum_of p s t < far)
    go (yes q) = absurd (let f = rw (eq-eqb t s q) at e in let z : ◌≡◌ {A = ℕ} 0 1 = cc in omega arith)
    go (no q) = (q, ltb-true _ _ (rw (ne_eqb t s q) at e))

reached_if : (p : Plan) (s t : ℕ) → t ≢ s → minimum_of p s t < far → reached p s t ≡ true
unfolding reached
reached_if p s t q h = rw (ne_eqb t s q, lt-ltb (minimum_of p s t) far h) refl

-- a member is downstream exactly if it is another and has a minimum
pub downstream-right : (p : Plan) (s t : ℕ) → In t (downstream p s) ↔ ((t < p.members) × (t ≢ s) × (minimum_of p s t < far))
unfolding downstream
downstream-right p s t = (
  λ h. let r = passing-only (reached p s) p.members t h in (r.0, (reached-only p s t r.1).0, (reached-only p s t r.1).1),
  λ h. passing-all (reached p s) p.members t h.0 (reached_if p s t h.1 h.2),
)

pub downstream-ascends : (p : Plan) (s : ℕ) → Ascends (downstream p s)
unfolding downstream
downstream-ascends p s = passing-ascends (reached p s) p.members

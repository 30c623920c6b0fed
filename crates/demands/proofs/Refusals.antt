-- Demand 1 inside a session: the refusal is the first that applies, and does what a refusal does.
-- Assumes nothing.
use Prim.Native.Nat.{ℕ, zero, suc, ◌<◌, ◌≤◌}
use native.Mathlib.Omega.{arith}
use mathlib.Core.Path.{◌≡◌, refl}
use mathlib.Core.Bool.{Bool, true, false}
use mathlib.Core.List.{List, [], ◌∷◌}
use lib.Dec.{ltb, leb, eqb}
use lib.ListN.{length}
use borrow.Author.Tests.{ltb-true, ltb-false, leb-true, lt-ltb, le-ltb}
use Rattle.basis.specs.Choice.{pick, not, both, either}
use Rattle.tags.specs.declared.Tag.{Tag}
use Rattle.tags.proofs.Order.{clash}
use Rattle.plans.specs.Nets.{Net}
use Rattle.transit.specs.Tags.{full}
use Rattle.states.specs.declared.Request.{Request}
use Rattle.states.specs.declared.Request.TheVariants.{Hello, Publish, Complete, Payload, ConfirmIdle, Stop, Abort}
use Rattle.states.specs.Sessions.{Session, view}
use Rattle.states.specs.Rules.{is_set}
use Rattle.states.specs.Steps.{absent, waiting, running, resting, halted, hello_in, work_in, stop_in, every, when, or_else, route_at, phase_of, lifecycle, kind_refusal, payload_refusal, refusal_of, bad_payload, bad_target, answered, step, ended, abandon, finished}
use Rattle.demands.specs.Refusals.{Ground, because, First, nothing, here, later, waits, outside, grounds, Refused, Over, Abandoned}

-- ---- there is one first
pub once : {gs : List Ground} (n k : ℕ) → First gs n → First gs k → n ≡ k
once n k nothing nothing = refl
once n k here here = refl
once n k (later f) (later g) = once n k f g

-- the first, found by going along the list
unfoldable pub decide : List Ground → ℕ
decide [] = 0
decide (because n b ∷ gs) = pick b n (decide gs)

pub found : (gs : List Ground) → First gs (decide gs)
unfolding decide
found [] = nothing
found (because n true ∷ gs) = here
found (because n false ∷ gs) = later (found gs)

-- ---- refusals said by nesting, as one choice
else_pick : (b : Bool) (n k : ℕ) → or_else (when b (suc n)) k ≡ pick b (suc n) k
else_pick true n k = refl
else_pick false n k = refl

-- the phase table, row by row
hello-row : (p : Net) (s : Session) (i : ℕ) → hello_in (phase_of p s i) ≡ when (view s i).joined 22
unfolding phase_of
hello-row p s i = go (view s i).joined (not (every (λ k. (view s k).joined) p.count)) (view s i).stopped (is_set (view s i).idle)
  where
    go : (a b c d : Bool) → hello_in (pick (not a) absent (pick b waiting (pick c halted (pick d resting running)))) ≡ when a 22
    go true true c d = refl
    go true false true d = refl
    go true false false true = refl
    go true false false false = refl
    go false b c d = refl

work_row : (p : Net) (s : Session) (i : ℕ) → work_in (phase_of p s i) ≡ when (outside p s i) 23
unfolding phase_of outside waits
work_row p s i = go (view s i).joined (not (every (λ k. (view s k).joined) p.count)) (view s i).stopped (is_set (view s i).idle)
  where
    go : (a b c d : Bool) → work_in (pick (not a) absent (pick b waiting (pick c halted (pick d resting running)))) ≡ when (either (not a) (either b c)) 23
    go true true c d = refl
    go true false true d = refl
    go true false false true = refl
    go true false false false = refl
    go false b c d = refl

stop-row : (p : Net) (s : Session) (i : ℕ) → stop_in (phase_of p s i) ≡ pick (outside p s i) 23 (pick (not (is_set (view s i).idle)) 32 0)
unfolding phase_of outside waits
stop-row p s i = go (view s i).joined (not (every (λ k. (view s k).joined) p.count)) (view s i).stopped (is_set (view s i).idle)
  where
    go : (a b c d : Bool) → stop_in (pick (not a) absent (pick b waiting (pick c halted (pick d resting running)))) ≡ pick (either (not a) (either b c)) 23 (pick (not d) 32 0)
    go true true c d = refl
    go true false true d = refl
    go true false false true = refl
    go true false false false = refl
    go false b c d = refl

else_zero : (k : ℕ) → or_else k 0 ≡ k
else_zero zero = refl
else_zero (suc k) = refl

hello-once : (a b : Bool) → or_else (when a 22) (when b 22) ≡ pick (either a b) 22 0
hello-once true b = refl
hello-once false b = refl

payload_order : (p : Net) (s : Session) (i k : ℕ) (t : Tag) → payload_refusal p s i k t ≡
    pick (leb (length p.routes) k) 26
    (pick (not (eqb (route_at p k).source i)) 27
    (pick (bad_payload (view s i) (route_at p k).delay t) 28
    (pick (bad_target (view s (route_at p k).target) t) 29
    (pick (full (p.capacity (route_at p k).target) t (view s (route_at p k).target).transit) 30 0))))
unfolding payload_refusal
payload_order p s i k t = rw (else_pick (leb (length p.routes) k) 25, else_pick (not (eqb (route_at p k).source i)) 26, else_pick (bad_payload (view s i) (route_at p k).delay t) 27, else_pick (bad_target (view s (route_at p k).target) t) 28)

-- ---- the two say the same number
agrees : (p : Net) (s : Session) (i : ℕ) (q : Request) → refusal_of p s i q ≡ decide (grounds p s i q)
unfolding refusal_of lifecycle kind_refusal grounds decide
agrees p s i (Hello d) = rw (else_pick (leb p.count i) 20, hello-row p s i, hello-once (view s i).joined (not (eqb d s.identity)))
agrees p s i (Publish r e) = rw (else_pick (leb p.count i) 20, work_row p s i, else_pick (outside p s i) 22)
agrees p s i (Complete t) = rw (else_pick (leb p.count i) 20, work_row p s i, else_pick (outside p s i) 22)
agrees p s i (Payload k t h) = rw (else_pick (leb p.count i) 20, work_row p s i, else_pick (outside p s i) 22, payload_order p s i k t)
agrees p s i (ConfirmIdle r) = rw (else_pick (leb p.count i) 20, work_row p s i, else_pick (outside p s i) 22)
agrees p s i Stop = rw (else_pick (leb p.count i) 20, else_zero (stop_in (phase_of p s i)), stop-row p s i)
agrees p s i (Abort c) = refl

-- The refusal of a request is the first of 01's list that applies.
pub first_applies : (p : Net) (s : Session) (i : ℕ) (q : Request) → First (grounds p s i q) (refusal_of p s i q)
first_applies p s i q = rw (agrees p s i q) (found (grounds p s i q))

-- ---- its number is 20 to 32
unfoldable inside : List Ground → Bool
inside [] = true
inside (because n b ∷ gs) = both (both (leb 20 n) (leb n 32)) (inside gs)

numbers : (p : Net) (s : Session) (i : ℕ) (q : Request) → inside (grounds p s i q) ≡ true
unfolding grounds inside
numbers p s i q = refl

both_true : (a b : Bool) → both a b ≡ true → (a ≡ true) × (b ≡ true)
both_true true b e = (refl, e)
both_true false b e = clash e

ranged : {gs : List Ground} {n : ℕ} → First gs n → inside gs ≡ true → 0 < n → (20 ≤ n) × (n ≤ 32)
unfolding inside
ranged nothing h l = absurd (omega arith)
ranged (here {n = n} {gs = gs}) h l =
    let t = both_true (leb 20 n) (leb n 32) (both_true (both (leb 20 n) (leb n 32)) (inside gs) h).0 in
    (leb-true 20 n t.0, leb-true n 32 t.1)
ranged (later {n = n} {gs = gs} f) h l = ranged f (both_true (both (leb 20 n) (leb n 32)) (inside gs) h).1 l

pub range : (p : Net) (s : Session) (i : ℕ) (q : Request) → 0 < refusal_of p s i q → (20 ≤ refusal_of p s i q) × (refusal_of p s i q ≤ 32)
range p s i q l = ranged (first_applies p s i q) (numbers p s i q) l

-- ---- what a step answers
-- a refusal, in a session that is not ended
pub refuses : (p : Net) (s : Session) (i : ℕ) (q : Request) → s.cause ≡ 0 → (n : ℕ) → 0 < n → refusal_of p s i q ≡ n → Refused p s q n (step p s i q)
unfolding step answered finished
refuses p s i q going zero l e = absurd (omega arith)
refuses p s i q going (suc n) l e =
    rw (le-ltb 0 s.cause (omega arith), e)
    record { number = rw e at (range p s i q (omega arith)); ends = rw (lt-ltb 0 (suc n) l); cause = refl; code = refl; members = refl; identity = refl; sent = refl }

-- in an ended one
pub over : (p : Net) (s : Session) (i : ℕ) (q : Request) → 0 < s.cause → Over s i (step p s i q)
unfolding step
over p s i q l = rw (lt-ltb 0 s.cause l) record { session = refl; sent = refl }

-- the owner's abort
pub abandoned : (p : Net) (s : Session) (code : ℕ) → Abandoned p s code (abandon p s code)
unfolding abandon ended
abandoned p s code = go (ltb 0 s.cause) refl
  where
    go : (b : Bool) → ltb 0 s.cause ≡ b → Abandoned p s code (abandon p s code)
    go true e = rw e record { cause = (λ z. absurd (omega (arith, ltb-true 0 s.cause e)), λ z. (refl, refl)); members = refl; identity = refl; sent = refl }
    go false e = rw e record { cause = (λ z. (refl, refl), λ z. absurd (omega (arith, ltb-false 0 s.cause e))); members = refl; identity = refl; sent = refl }

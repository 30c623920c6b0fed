-- Laws of determinacy, and the answers inside a session, each fixed by what is said of it.
-- Assumes nothing.
use Prim.Native.Nat.{ℕ, zero, suc}
use native.Mathlib.Omega.{arith}
use mathlib.Core.Path.{◌≡◌, refl, sym, ap, ap₂, ◌∙◌}
use mathlib.Core.List.{List, []}
use lib.Seq.{ext_get_or}
use Rattle.basis.specs.Choice.{pick}
use Rattle.plans.specs.Nets.{Net}
use Rattle.states.specs.declared.Request.{Request}
use Rattle.states.specs.declared.Delivery.{Delivery}
use Rattle.states.specs.Sessions.{Member, Session, blank, view}
use Rattle.states.specs.declared.Delivery.TheVariants.{Started, Failed}
use Rattle.states.specs.Steps.{code_given, Out, every, to_all}
use Rattle.demands.specs.Determined.{Determined}
use Rattle.demands.specs.Refusals.{Refused, Over, Abandoned}
use Rattle.demands.specs.Rules.{Followed, Welcomed}

-- ---- a promise that equates an answer with a function of the inputs
pub equated : {A : Type 0} (f : A) → Determined (λ (x : A). x ≡ f)
equated f x y p q = p ∙ sym q

-- an answer of two parts, each determined
pub paired : {A B : Type 0} (P : A → Type 0) (Q : B → Type 0) → Determined P → Determined Q → Determined (λ (z : A × B). P z.0 × Q z.1)
paired P Q f g x y p q = ap₂ (λ a b. (a, b)) (f x.0 y.0 p.0 q.0) (g x.1 y.1 p.1 q.1)

-- a promise that says more leaves no more
pub stronger : {A : Type 0} (P Q : A → Type 0) → ((x : A) → P x → Q x) → Determined Q → Determined P
stronger P Q f g x y p q = g x y (f x p) (f y q)

-- ---- the answers inside a session
same-session : (s t : Session) → s.members ≡ t.members → s.identity ≡ t.identity → s.cause ≡ t.cause → s.code ≡ t.code → s ≡ t
same-session s t a b c d =
    ap₂ (λ (x : List Member) (y : ℕ). record { members = x; identity = y; cause = s.cause; code = s.code }) a b
    ∙ ap₂ (λ (x : ℕ) (y : ℕ). record { members = t.members; identity = t.identity; cause = x; code = y }) c d

same_out : (o r : Out) → o.session ≡ r.session → o.sent ≡ r.sent → o ≡ r
same_out o r a b = ap₂ (λ (x : Session) (y : List Delivery). record { session = x; sent = y }) a b

pub refused-determined : (p : Net) (s : Session) (q : Request) (n : ℕ) → Determined (Refused p s q n)
refused-determined p s q n o r h k =
    same_out o r
    (same-session o.session r.session (h.members ∙ sym k.members) (h.identity ∙ sym k.identity) (h.cause ∙ sym k.cause) (h.code ∙ sym k.code))
    (h.sent ∙ sym k.sent)

pub over-determined : (s : Session) (i : ℕ) → Determined (Over s i)
over-determined s i o r h k = same_out o r (h.session ∙ sym k.session) (h.sent ∙ sym k.sent)

pub abandoned-determined : (p : Net) (s : Session) (code : ℕ) → Determined (Abandoned p s code)
abandoned-determined p s code o r h k = same_out o r session (h.sent ∙ (ap (λ (x : Session). to_all (λ i. Failed i x.cause (code_given x)) p.count) session ∙ sym k.sent))
  where
    same-cause : (c : ℕ) → s.cause ≡ c → (o.session.cause ≡ r.session.cause) × (o.session.code ≡ r.session.code)
    same-cause zero e = let a = h.cause.0 e in let b = k.cause.0 e in (a.0 ∙ sym b.0, a.1 ∙ sym b.1)
    same-cause (suc c) e = let a = h.cause.1 (omega arith) in let b = k.cause.1 (omega arith) in (a.0 ∙ sym b.0, a.1 ∙ sym b.1)

    session : o.session ≡ r.session
    session = let z = same-cause s.cause refl in same-session o.session r.session (h.members ∙ sym k.members) (h.identity ∙ sym k.identity) z.0 z.1

pub welcomed_determined : (p : Net) (s : Session) (i : ℕ) → Determined (Welcomed p s i)
welcomed_determined p s i o r h k = same_out o r session (h.sent ∙ (ap (λ (x : Session). pick (every (λ j. (view x j).joined) p.count) (to_all Started p.count) []) session ∙ sym k.sent))
  where
    session : o.session ≡ r.session
    session = h.session ∙ sym k.session

pub followed-determined : (p : Net) (i : ℕ) (x : Out) → Determined (Followed p i x)
followed-determined p i x o r h k =
    same_out o r
    (same-session o.session r.session
    (ext_get_or blank o.session.members r.session.members (h.count ∙ sym k.count) (λ j l. h.members j (omega (arith, h.count)) ∙ sym (k.members j (omega (arith, h.count)))))
    (h.identity ∙ sym k.identity) (h.cause ∙ sym k.cause) (h.code ∙ sym k.code))
    (h.sent ∙ sym k.sent)

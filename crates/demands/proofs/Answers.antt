-- A step answers as 01 says, and no other answer does.
-- Assumes nothing.
use Prim.Native.Nat.{ℕ, zero, suc}
use native.Mathlib.Omega.{arith}
use mathlib.Core.Path.{◌≡◌, refl}
use mathlib.Core.Bool.{Bool, true, false}
use lib.ListN.{length}
use Rattle.tags.proofs.Order.{clash}
use Rattle.plans.specs.Nets.{Net}
use Rattle.states.specs.declared.Request.{Request}
use Rattle.states.specs.declared.Request.TheVariants.{Hello, Publish, Complete, Payload, ConfirmIdle, Stop, Abort}
use Rattle.states.specs.Sessions.{Session}
use Rattle.states.specs.Steps.{refusal_of, step}
use Rattle.demands.specs.Refusals.{is_hello, First, grounds}
use Rattle.demands.specs.Rules.{Welcomed}
use Rattle.demands.specs.Determined.{Determined}
use Rattle.demands.specs.Answers.{Answer}
use Rattle.demands.proofs.Refusals.{once, first_applies, refuses, over}
use Rattle.demands.proofs.Rules.{taken-follows, taken_welcomes}
use Rattle.demands.proofs.Determined.{refused-determined, over-determined, welcomed_determined, followed-determined}

module _ (p : Net) (s : Session) (i : ℕ) (q : Request) where
  -- the first that applies is the refusal
  is-first : (n : ℕ) → First (grounds p s i q) n → refusal_of p s i q ≡ n
  is-first n f = once (refusal_of p s i q) n (first_applies p s i q) f

  hello_welcomes : (x : Request) → s.cause ≡ 0 → refusal_of p s i x ≡ 0 → is_hello x ≡ true → Welcomed p s i (step p s i x)
  hello_welcomes (Hello d) c e h = taken_welcomes p s i d c e
  hello_welcomes (Publish r n) c e h = clash h
  hello_welcomes (Complete t) c e h = clash h
  hello_welcomes (Payload k t x) c e h = clash h
  hello_welcomes (ConfirmIdle r) c e h = clash h
  hello_welcomes Stop c e h = clash h
  hello_welcomes (Abort n) c e h = clash h

  pub answers : length s.members ≡ p.count → Answer p s i q (step p s i q)
  answers long =
      record {
        over = λ l. over p s i q l;
        refusal = λ c n l f. refuses p s i q c n l (is-first n f);
        welcome = λ c f h. hello_welcomes q c (is-first 0 f) h;
        follow = λ c f h. taken-follows p s i q long c (is-first 0 f) h;
      }

  pub one_answer : Determined (Answer p s i q)
  one_answer o r h k = go s.cause refl (refusal_of p s i q) refl (is_hello q) refl
    where
      go : (c : ℕ) → s.cause ≡ c → (n : ℕ) → refusal_of p s i q ≡ n → (b : Bool) → is_hello q ≡ b → o ≡ r
      go (suc c) e n f b g = over-determined s i o r (h.over (omega arith)) (k.over (omega arith))
      go zero e (suc n) f b g = let w = rw f at (first_applies p s i q) in refused-determined p s q (suc n) o r (h.refusal e (suc n) (omega arith) w) (k.refusal e (suc n) (omega arith) w)
      go zero e zero f true g = let w = rw f at (first_applies p s i q) in welcomed_determined p s i o r (h.welcome e w g) (k.welcome e w g)
      go zero e zero f false g = let w = rw f at (first_applies p s i q) in followed-determined p i _ o r (h.follow e w g) (k.follow e w g)

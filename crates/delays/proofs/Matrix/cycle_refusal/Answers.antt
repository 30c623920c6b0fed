use Rattle.std.proofs.Common.{refl, arith}
use borrow.Author.Tests.{lt-ltb, le-ltb}
use Rattle.delays.specs.Refusals.{cycle_of}
use Rattle.delays.proofs.Matrix.cycle_refusal.Goals as goal

pub returns-in-Some : goal.returns-in-Some
unfolding cycle_of
returns-in-Some c = let e = c.in-Some.ensures in rw (e.1, lt-ltb _ _ e.0, c.component.ensures) refl

pub returns-in-None : goal.returns-in-None
unfolding cycle_of
returns-in-None c = rw (c.in-None.ensures, le-ltb c.args.n c.args.n (omega arith)) refl

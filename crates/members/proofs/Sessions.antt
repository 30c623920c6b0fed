-- The lists of tags that the code makes from a session as it is held are those of its members.
-- Assumes nothing.
use Prim.Native.Nat.{ℕ, ◌≤◌}
use mathlib.Core.Path.{◌≡◌, subst, ◌∙◌}
use mathlib.Core.List.{List}
use native.Mathlib.Omega.{arith}
use Rattle.states.specs.Sessions.{Session, view}
use Rattle.states.specs.Formed.{Sound}
use Rattle.rows.specs.Rows.{Laid, members}
use Rattle.rows.specs.Nets.{net_in}
use Rattle.members.specs.Codes.{state_of, slab_of}
use Rattle.members.specs.Rules.{tags_to, earliest_at, completed_at}
use Rattle.members.proofs.Codes.{state-count}
use Rattle.members.proofs.Formed.{sound-count, sound-session}
use Rattle.members.proofs.Rules.{Earliests, Completeds, earliests, completeds}

module _ (b : List ℕ) (laid : Laid b) (x : Session) (sound : Sound (net_in b) x) (w : List ℕ) where
  same : (state_of x).count ≡ members b
  same = state-count x ∙ sound-count b laid x sound

  few : (state_of x).count ≤ 32
  few = omega (arith, same, laid.few-members)

  pub sound-earliests : Earliests (view x) (tags_to (earliest_at (state_of x) (slab_of x w)) (members b))
  sound-earliests =
      subst (λ (n : ℕ). Earliests (view x) (tags_to (earliest_at (state_of x) (slab_of x w)) n)) same
      (subst (λ (y : Session). Earliests (view y) (tags_to (earliest_at (state_of x) (slab_of x w)) (state_of x).count)) (sound-session b laid x sound w)
      (earliests (state_of x) (slab_of x w) few))

  pub sound-completeds : Completeds (view x) (tags_to (completed_at (state_of x)) (members b))
  sound-completeds =
      subst (λ (n : ℕ). Completeds (view x) (tags_to (completed_at (state_of x)) n)) same
      (subst (λ (y : Session). Completeds (view y) (tags_to (completed_at (state_of x)) (state_of x).count)) (sound-session b laid x sound w)
      (completeds (state_of x) (slab_of x w) few))

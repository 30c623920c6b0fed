-- Bytes that are refused with neither 11 nor 12: all demands, of the plan in them and of the net that a session reads off them.
-- Assumes nothing.
use Prim.Native.Nat.{ℕ}
use mathlib.Core.Path.{◌≡◌}
use mathlib.Core.List.{List}
use Rattle.basis.proofs.Numbers.{Bytes}
use Rattle.rows.specs.Plans.{plan_in}
use Rattle.rows.specs.Nets.{net_in}
use Rattle.rows.proofs.Plans.{fits_in}
use Rattle.recognised.specs.Facts.{Image}
use Rattle.recognised.specs.Recognised.{refusal_in}
use Rattle.recognised.proofs.Answers.{not-refused, apart-fine}
use Rattle.recognised.proofs.Main.{walks, minimum-read, direct-read}
use Rattle.demands.specs.Nets.{Taken, Alike, net_of}
use Rattle.demands.specs.Demands.{Demands}
use Rattle.demands.proofs.Compiled.{alike_in}
use Rattle.demands.proofs.Demands.{demands}

module _ (b : List ℕ) (B : Bytes b) (I : Image b) where
  -- the plan in an image is one that 8 and 9 take
  pub image-taken : Taken (plan_in b)
  unfolding plan_in
  image-taken = record { fits = fits_in b I.few I.routed I.from I.to I.small; words = (walks b B I).fits; sound = apart-fine (plan_in b) I.apart I.near }

  -- its rows say what the analysis of that plan says: direct and minimum delays over all nonempty walks
  pub image-alike : Alike (net_of (plan_in b)) (net_in b)
  image-alike = alike_in b I.few I.routed (direct-read b B I) (minimum-read b B I)

pub demands_in : (b : List ℕ) → Bytes b → refusal_in b ≡ 0 → Demands (plan_in b) (net_in b)
demands_in b B e = let I = not-refused b e in demands (plan_in b) (image-taken b B I) (net_in b) (image-alike b B I)

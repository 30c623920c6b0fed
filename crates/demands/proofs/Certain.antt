-- All of it, of any bytes.
-- Assumes nothing.
use Prim.Native.Nat.{ℕ, ◌<◌}
use mathlib.Core.List.{List}
use lib.ListN.{get_or}
use Rattle.recognised.proofs.Answers.{not-refused}
use Rattle.recognised.proofs.Sits.{bytes_of}
use Rattle.demands.specs.Certain.{Certain}
use Rattle.demands.proofs.Recognised.{image-alike, demands_in}
use Rattle.demands.proofs.Entries.{opens, aborts, handles}
use Rattle.demands.proofs.One.{one-opening, one-abort, one-handling}
use Rattle.demands.proofs.Calls.{finished-is, kept}

-- a byte is below 256
pub certain : (b : List ℕ) → ((i : ℕ) → get_or b i 0 < 256) → Certain b
certain b bytes =
    let B = bytes_of b bytes in
    record {
      opens = opens b;
      one-opening = one-opening b;
      handles = λ s whole slab request words. handles b bytes s whole slab words request;
      one-handling = one-handling b;
      aborts = λ s whole slab code words. aborts b bytes s whole slab words code;
      one-abort = one-abort b;
      delays = λ e. image-alike b B (not-refused b e);
      demands = demands_in b B;
      kept = kept b B;
      finished = finished-is b;
    }

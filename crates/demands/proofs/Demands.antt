-- The demands hold of every plan that is taken, and of every net that says the same of its members.
-- Assumes nothing.
use mathlib.Core.Path.{refl}
use Rattle.plans.specs.declared.Plan.{Plan}
use Rattle.plans.specs.Nets.{Net}
use Rattle.states.proofs.Counts.{step_count}
use Rattle.demands.specs.Nets.{net_of, Taken, Alike}
use Rattle.demands.specs.Demands.{Demands}
use Rattle.demands.proofs.Histories.{formed}
use Rattle.demands.proofs.Refusals.{abandoned}
use Rattle.demands.proofs.Answers.{answers, one_answer}
use Rattle.demands.proofs.Determined.{abandoned-determined}
use Rattle.demands.proofs.Analysis.{analysed}
use Rattle.demands.proofs.Nets.{demand_3_alike}

pub demands : (p : Plan) → Taken p → (n : Net) → Alike (net_of p) n → Demands p n
demands p h n a =
    record {
      answers = λ s r i q. answers n s i q (formed n s r).count;
      one_answer = one_answer n;
      aborts = abandoned n;
      one-abort = abandoned-determined n;
      formed = formed n;
      few = λ s r i q. step_count n s (formed n s r).count i q;
      analysis = analysed p h.fits h.words;
      grants = λ s r. (demand_3_alike p h n a s r).0;
      moves = λ s r. (demand_3_alike p h n a s r).1;
    }

-- a net says the same as itself
pub alike-itself : (n : Net) → Alike n n
alike-itself n = record { count = refl; capacity = λ i l. refl; direct = λ i j l m. refl; minimum = λ i j l m. refl; routes = refl }

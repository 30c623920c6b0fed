use Rattle.std.proofs.Common.{◌∙◌}
use Rattle.delays.proofs.Refusals.{judged-held}
use Rattle.delays.proofs.analyse.Goals as goal

pub returns : goal.returns
returns c = record {
  answer = c.judge.ensures ∙ judged-held c.args.p c.requires _ _ c.minimum_delays.ensures;
  direct = c.direct_delays.ensures;
  minimum = c.minimum_delays.ensures;
}

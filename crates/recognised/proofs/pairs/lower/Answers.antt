use Rattle.recognised.proofs.pairs.lower.Goals as goal

pub returns : goal.returns
returns c = record { here = c.offer.ensures.here; there = c.offer.ensures.there }

use Rattle.std.proofs.Common.{◌*◌, ap, refl, ◌∙◌}
use Rattle.transit.proofs.Stretches.{put_back}
use Rattle.requests.specs.Sending.{listed, words_of}
use Rattle.requests.proofs.send.Goals as goal

pub returns : goal.returns
unfolding words_of
returns c = put_back (7 * c.args.k) 7 c.args.out.now c.copy_from_slice.new.self (words_of c.args.d) (c.copy_from_slice.ensures.after ∙ ap listed c.from-w.ensures) refl

use mathlib.Core.Path.{◌≡◌}
use mathlib.Core.List.{[], ◌∷◌}
use native.Mathlib.Omega.{arith}
use lib.ListN.{length}
use Rattle.image.specs.Image.{words, source_row}
use Rattle.image.proofs.Puts.{put_then, put-length}
use Rattle.image.proofs.Rows.{length-words}
use Rattle.image.proofs.put_source.Goals as goal

pub put_words-next-requires : goal.put_words-next-requires
put_words-next-requires c = (omega (arith, length-words (c.args.source ∷ 0 ∷ [])), (omega arith, (omega arith, tt)))

pub put_u64-requires : goal.put_u64-requires
put_u64-requires c = let long : length (words (c.args.source ∷ 0 ∷ [])) ≡ 8 = length-words (c.args.source ∷ 0 ∷ []) in
    omega (arith, put-length (omega arith) c.put_words-next.ensures, c.put_words-next.ensures.past)

pub returns : goal.returns
unfolding source_row
returns c = put_then (omega arith) c.put_words-next.ensures c.put_u64.ensures

use Rattle.std.proofs.Common.{[], ◌∷◌, arith}
use Rattle.basis.proofs.Numbers.{length-bytes}
use Rattle.image.specs.Writing.{member_bytes}
use Rattle.image.proofs.Rows.{length-words}
use Rattle.image.proofs.Puts.{put_then, put_next}
use Rattle.image.proofs.put_member.Goals as goal

pub put_words-requires : goal.put_words-requires
put_words-requires c = (
  omega (arith, put_next 32 (omega (arith, length-bytes 8 c.args.id)) c.put_u64-next.ensures, length-words (c.args.capacity ∷ c.args.first.direct ∷ c.args.count.direct ∷ c.args.first.transitive ∷ c.args.count.transitive ∷ c.args.first.downstream ∷ c.args.count.downstream ∷ 0 ∷ [])),
  (omega arith, (omega arith, (omega arith, (omega arith, (omega arith, (omega arith, (omega arith, (omega arith, tt)))))))),
)

pub returns : goal.returns
unfolding member_bytes
returns c = put_then (omega arith) c.put_u64-next.ensures c.put_words.ensures

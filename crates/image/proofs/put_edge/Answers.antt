use mathlib.Core.List.{[], ◌∷◌}
use native.Mathlib.Omega.{arith}
use Rattle.basis.proofs.Numbers.{length-bytes}
use Rattle.image.specs.Writing.{edge_bytes}
use Rattle.image.proofs.Puts.{put_then, put_next}
use Rattle.image.proofs.Rows.{length-words}
use Rattle.image.proofs.put_edge.Goals as goal

pub put_words-next-requires : goal.put_words-next-requires
put_words-next-requires c = (
  omega (
    arith,
    put_next 16 (omega (arith, length-bytes 8 c.args.id)) c.put_u64-ends.ensures,
    length-words (c.from.result ∷ c.from-2.result ∷ []),
  ),
  (omega arith, (omega arith, tt)),
)

pub put_u64-requires : goal.put_u64-requires
put_u64-requires c = put_next 8
    (omega (
      arith,
      put_next 16 (omega (arith, length-bytes 8 c.args.id)) c.put_u64-ends.ensures,
      length-words (c.from.result ∷ c.from-2.result ∷ []),
    ))
    c.put_words-next.ensures

pub returns : goal.returns
unfolding edge_bytes
returns c = rw (← c.from.ensures, ← c.from-2.ensures)
    (put_then (omega arith) c.put_u64-ends.ensures
    (put_then (omega (arith, put_next 16 (omega (arith, length-bytes 8 c.args.id)) c.put_u64-ends.ensures)) c.put_words-next.ensures c.put_u64.ensures))

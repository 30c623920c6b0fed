use lib.ListN.{length, get_or}
use Rattle.basis.specs.Numbers.{bytes}
use Rattle.image.proofs.Puts.{Going}
use Rattle.image.proofs.put_words.Given as goal

abbrev pub invariant-loop-w : goal.invariant-loop-w
invariant-loop-w l = Going l.at (λ k. bytes 4 (get_or l.ws k 0)) (length l.ws) l.w-index l.initial.out l.out l.next

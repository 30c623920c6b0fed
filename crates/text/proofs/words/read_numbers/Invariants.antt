use Rattle.std.proofs.Common.{◌≡◌, ◌+◌, ◌==◌, length, drop}
use Rattle.std.specs.List.{slice_split}
use Rattle.std.proofs.lemmas.List.Edits.{sets}
use Rattle.text.specs.Numbers.{leading, count_from}
use Rattle.text.proofs.words.read_numbers.Given as goal

abbrev pub invariant-loop-word : goal.invariant-loop-word
invariant-loop-word l = record {
  at : l.count ≡ length l.yielded;
  value : count_from l.count (drop l.count (slice_split (λ b. b == 32) (drop (l.from + 1) l.line))) ≡ count_from 0 (slice_split (λ b. b == 32) (drop (l.from + 1) l.line));
  kept : sets l.out l.count (leading (drop l.count (slice_split (λ b. b == 32) (drop (l.from + 1) l.line)))) ≡ sets l.initial.out 0 (leading (slice_split (λ b. b == 32) (drop (l.from + 1) l.line)));
}

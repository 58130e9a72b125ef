-- The loop fills the list of numbers from the front with the words of the field.
use Rattle.std.proofs.Common.{◌+◌, ◌*◌, ◌≡◌, length}
use Rattle.facts.specs.Filled.{filled}
use Rattle.words.specs.Words.{word}
use Rattle.words.proofs.get_field.Given as goal

abbrev pub invariant-loop-i : goal.invariant-loop-i
invariant-loop-i l = record {
  size : length l.out ≡ length l.initial.out;
  words : l.out ≡ filled (λ n. word l.list (l.from + l.step * n)) l.i l.initial.out;
}

-- The loop sets one word of the field after the other.
use Rattle.std.proofs.Common.{◌≡◌, length}
use Rattle.words.specs.Words.{with_words}
use Rattle.words.proofs.put_field.Given as goal

abbrev pub invariant-loop-i : goal.invariant-loop-i
invariant-loop-i l = record {
  size : length l.list ≡ length l.initial.list;
  words : l.list ≡ with_words l.initial.list l.from l.step l.i l.values;
}

-- `Marks::count` meets its contract. The loop's invariant: what is counted, and what the words to come hold, is what all hold.
use Rattle.std.proofs.Common.{◌≡◌, ◌+◌, ◌*◌, ◌≤◌, drop}
use lib.Count.{ones}
use Rattle.numbers.specs.Digits.{from_digits}
use Rattle.words.proofs.Marks.count.Given as goal

abbrev pub invariant-loop-word : goal.invariant-loop-word
invariant-loop-word l = record {
  few : l.total ≤ 64 * l.word-index;
  all : l.total + ones (from_digits 64 (drop l.word-index l.word-items)) ≡ ones (from_digits 64 l.word-items);
}

-- `text::reading::digits` meets its contract. The loop's invariant: what is left of the text, behind the number so far, decides. Assumes nothing.
use Rattle.std.proofs.Common.{◌≡◌, drop}
use Rattle.text.specs.Reading.{read_digits}
use Rattle.text.proofs.reading.digits.Given as goal

abbrev pub invariant-loop-i : goal.invariant-loop-i
invariant-loop-i l = read_digits l.fn.first l.fn.text ≡ read_digits l.number (drop l.i l.text)

-- `text::reading::pairs` meets its contract. The loop's invariant: the bytes passed are digits. Assumes nothing.
use Rattle.text.proofs.ReadHex.{Run}
use Rattle.text.proofs.reading.pairs.Given as goal

abbrev pub invariant-loop-i : goal.invariant-loop-i
invariant-loop-i l = Run l.text l.i

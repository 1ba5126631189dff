-- `text::write_decimal` meets its contract. The loop's invariant: the digits of what is left stand before those that were made. Assumes nothing.
use Rattle.std.proofs.Common.{◌≡◌, ◌++◌, ◌≤◌, length, drop}
use Rattle.text.specs.Text.{decimal_of}
use Rattle.text.proofs.write_decimal.Given as goal

abbrev pub invariant-loop-left : goal.invariant-loop-left
invariant-loop-left l = (l.start ≤ 20) × (length l.digits ≡ 20) × (decimal_of l.number ≡ decimal_of l.left ++ drop l.start l.digits)

abbrev pub decreases-loop-left : goal.decreases-loop-left
decreases-loop-left l = l.left

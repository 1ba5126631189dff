-- `Marks::shifted` meets its contract. The loop's invariant: what is left to move makes of what was moved what all of it makes of the number.
use Rattle.std.proofs.Common.{◌≡◌, ◌*◌, ◌%◌, ◌^◌}
use Rattle.words.proofs.Marks.shifted.Given as goal

abbrev pub invariant-loop-left : goal.invariant-loop-left
invariant-loop-left l = l.moved * 2 ^ l.left % 2 ^ 256 ≡ l.initial.moved * 2 ^ l.d % 2 ^ 256

abbrev pub decreases-loop-left : goal.decreases-loop-left
decreases-loop-left l = l.left

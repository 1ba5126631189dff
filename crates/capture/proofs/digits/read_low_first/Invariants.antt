-- `capture::digits::read_low_first` meets its contract. The loop's invariant: the number of the bytes from i on, with its width. Assumes nothing.
use Rattle.std.proofs.Common.{◌≡◌, ◌+◌, ◌-◌, ◌*◌, ◌^◌, ◌≤◌, ◌<◌, drop}
use Rattle.capture.specs.Capture.{little_endian}
use Rattle.capture.proofs.digits.read_low_first.Given as goal

abbrev pub invariant-loop-i : goal.invariant-loop-i
invariant-loop-i l = (l.i ≤ l.n) × (l.number < 2 ^ (8 * (l.n - l.i))) × (l.number ≡ little_endian (l.n - l.i) (drop (l.at + l.i) l.bytes))

abbrev pub decreases-loop-i : goal.decreases-loop-i
decreases-loop-i l = l.i

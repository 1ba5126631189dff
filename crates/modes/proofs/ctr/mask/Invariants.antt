-- `modes::ctr::mask` meets its contract. The loop's invariant: the bytes passed are written, and the others stay. Assumes nothing.
use Rattle.std.proofs.Common.{◌≡◌}
use lib.Seq.{paste}
use Rattle.modes.specs.Modes.{byte_of, masked}
use Rattle.modes.proofs.ctr.mask.Given as goal

abbrev pub invariant-loop-i : goal.invariant-loop-i
invariant-loop-i l = l.out ≡ paste l.initial.out l.at (masked (byte_of 8 l.gamma) 0 l.bytes) l.i

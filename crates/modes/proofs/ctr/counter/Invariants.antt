-- `modes::ctr::counter` meets its contract. The loop's invariant: the bytes of the blocks passed are written, and the others stay; which bytes are left.
-- Assumes nothing.
use Rattle.std.proofs.Common.{◌≡◌, ◌*◌, min, length, drop}
use lib.Seq.{paste}
use Rattle.modes.specs.Modes.{magma_counter}
use Rattle.modes.proofs.ctr.counter.Given as goal

abbrev pub invariant-loop-k : goal.invariant-loop-k
invariant-loop-k l =
    let n = l.k-iterator.count in record {
      blocks : l.k-iterator.iter.size ≡ 8;
      left : l.k-iterator.iter.rest.now ≡ drop (8 * n) l.bytes;
      value : l.out ≡ paste l.initial.out l.at (magma_counter l.key l.iv l.bytes) (min (8 * n) (length l.bytes));
    }

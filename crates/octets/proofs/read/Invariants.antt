-- `octets::read` meets its contract. The loop's invariant: the number of the bytes passed, with its width. Assumes nothing.
use Rattle.std.proofs.Common.{◌≡◌, ◌*◌, ◌^◌, ◌<◌, drop}
use Rattle.octets.specs.Octets.{big_endian}
use Rattle.octets.proofs.read.Given as goal

abbrev pub invariant-loop-byte : goal.invariant-loop-byte
invariant-loop-byte l = record {
  width : l.number < 2 ^ (8 * l.byte-index);
  value : l.number ≡ big_endian l.byte-index (drop l.at l.bytes);
}

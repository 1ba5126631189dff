-- `text::hexed::hex_number` meets its contract. The loop's invariant: which bytes are left, and the number of those that are passed, with its width.
-- Assumes nothing.
use Rattle.std.proofs.Common.{◌≡◌, ◌*◌, ◌^◌, ◌<◌, ◌≤◌, length, drop}
use Rattle.octets.specs.Octets.{big_endian, part}
use Rattle.text.specs.Found.{unhexed}
use Rattle.text.proofs.hexed.hex_number.Given as goal

abbrev pub invariant-loop-pair : goal.invariant-loop-pair
invariant-loop-pair l = record {
  size : l.pair-iterator.size ≡ 2;
  within : length l.yielded ≤ l.fn.n;
  left : unhexed l.pair-iterator.rest.now ≡ drop (length l.yielded) (unhexed (part l.fn.at (2 * l.fn.n) l.fn.text));
  width : l.number < 2 ^ (8 * length l.yielded);
  value : l.number ≡ big_endian (length l.yielded) (unhexed (part l.fn.at (2 * l.fn.n) l.fn.text));
}

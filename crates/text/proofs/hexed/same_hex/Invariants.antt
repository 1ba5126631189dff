-- `text::hexed::same_hex` meets its contract. The loop's invariant: what is left decides, as many on both sides. Assumes nothing.
use Rattle.std.proofs.Common.{◌≡◌, ◌*◌, ◌/◌, length}
use Rattle.octets.specs.Octets.{part, same}
use Rattle.text.specs.Found.{unhexed}
use Rattle.text.proofs.hexed.same_hex.Given as goal

abbrev pub invariant-loop-pair : goal.invariant-loop-pair
invariant-loop-pair l = record {
  size : l.pair-iterator.a.size ≡ 2;
  long : length l.pair-iterator.a.rest.now / 2 ≡ length l.pair-iterator.b.rest.now;
  decides : same l.fn.bytes (unhexed (part l.fn.at (2 * l.fn.count) l.fn.text)) ≡ same l.pair-iterator.b.rest.now (unhexed l.pair-iterator.a.rest.now);
}

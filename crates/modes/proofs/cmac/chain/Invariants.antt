-- `modes::cmac::chain` meets its contract. The loop's invariant: what the blocks passed come to, and which bytes are left. Assumes nothing.
use Rattle.std.proofs.Common.{◌≡◌, ◌*◌, ◌≤◌, length, drop}
use Rattle.magma.specs.Magma.{encrypted}
use Rattle.modes.specs.Modes.{chained}
use Rattle.modes.proofs.cmac.chain.Given as goal

abbrev pub invariant-loop-block : goal.invariant-loop-block
invariant-loop-block l = record {
  blocks : l.block-iterator.size ≡ 8;
  within : 8 * length l.yielded ≤ length l.bytes;
  left : l.block-iterator.rest.now ≡ drop (8 * length l.yielded) l.bytes;
  value : l.chain ≡ chained 8 (encrypted l.key) l.bytes (length l.yielded);
}

-- `format::suite::Suite::output_bits` meets its contract: the bits of a block, as often as there are blocks. Assumes nothing.
use Rattle.std.proofs.Common.{rules}
use Rattle.format.proofs.suite.Suite.output_bits.Goals as goal

pub overflow_mul-result-2 : goal.overflow_mul-result-2
overflow_mul-result-2 c = rw c.block_length.ensures (search rules)

pub returns : goal.returns
returns c = rw (c.block_length.ensures, c.blocks-2.ensures)

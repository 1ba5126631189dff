-- `format::suite::Suite::key_blocks` meets its contract: a key's bytes over a block's. Assumes nothing.
use Rattle.std.proofs.Common.{rules}
use Rattle.format.proofs.suite.Suite.key_blocks.Goals as goal

pub overflow_cast-result : goal.overflow_cast-result
overflow_cast-result c = rw c.block_length.ensures (search rules)

pub returns : goal.returns
returns c = rw c.block_length.ensures

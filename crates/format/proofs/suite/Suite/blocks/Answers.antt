-- `format::suite::Suite::blocks` meets its contract: the blocks of two keys where the suite enciphers, of one where not. Assumes nothing.
use Rattle.format.proofs.suite.Suite.blocks.Goals as goal

pub returns-then-enciphers : goal.returns-then-enciphers
returns-then-enciphers c = rw (c.key_blocks.ensures, ← c.enciphers.ensures, c.if-enciphers.true)

pub returns-else-enciphers : goal.returns-else-enciphers
returns-else-enciphers c = rw (c.key_blocks-else-enciphers.ensures, ← c.enciphers.ensures, c.if-enciphers.false)

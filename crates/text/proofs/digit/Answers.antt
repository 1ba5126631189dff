-- `text::digit` meets its contract, by the test that its definition has. Assumes nothing.
use Rattle.std.proofs.Common.{lt-ltb, le-ltb, arith}
use Rattle.text.proofs.digit.Goals as goal

pub returns-then-d-lt10 : goal.returns-then-d-lt10
returns-then-d-lt10 c = rw (lt-ltb c.args.d 10 (omega arith))

pub returns-else-d-lt10 : goal.returns-else-d-lt10
returns-else-d-lt10 c = rw (le-ltb c.args.d 10 (omega arith))

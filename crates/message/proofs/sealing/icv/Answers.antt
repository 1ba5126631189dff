-- `message::sealing::icv` meets its contract: the check value under the check key, cut to the suite's length. Assumes nothing.
use Rattle.std.proofs.Common.{◌≤◌, arith}
use Rattle.message.specs.Sealing.{icv_of}
use Rattle.format.proofs.Suites.{icv_least, icv_most}
use Rattle.message.proofs.sealing.icv.Goals.{After-icv_length}
use Rattle.message.proofs.sealing.icv.Goals as goal

-- an ICV is at most a block
short : (c : After-icv_length) → c.icv_length.result ≤ c.block_length.result
short c = rw (c.icv_length.ensures, c.block_length.ensures) (icv_most c.suite-suite.result)

pub overflow_sub-behind : goal.overflow_sub-behind
overflow_sub-behind c = omega (arith, short c)

pub overflow_mul-result : goal.overflow_mul-result
overflow_mul-result c = omega (arith, c.block_length.ensures)

-- and at least a byte
some : (c : After-icv_length) → 1 ≤ c.icv_length.result
some c = omega (arith, c.icv_length.ensures, icv_least c.suite-suite.result)

pub overflow_shr-result : goal.overflow_shr-result
overflow_shr-result c =
    omega (arith, c.block_length.ensures, some (goal.at.overflow_shr-result c).After-icv_length)

pub returns : goal.returns
unfolding icv_of
returns c = rw (c.check_value.ensures, c.icv_length.ensures, c.block_length.ensures, c.suite-suite.ensures, c.check_key.ensures)

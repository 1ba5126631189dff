-- `modes::cmac::padded` meets its contract: a full block is read as it stands, a short one is shifted up behind its bit 1. Assumes nothing.
use Rattle.std.proofs.Common.{◌∙◌, suc, ◌+◌, ◌-◌, ◌*◌, ◌^◌, ◌<◌, arith, length, shl_exact}
use Rattle.octets.proofs.BigEndian.{grown, word}
use Rattle.modes.proofs.Blocks.{full, short}
use Rattle.modes.proofs.cmac.padded.Goals.{Else-bytes-eq8}
use Rattle.modes.proofs.cmac.padded.Goals as goal

pub returns-then-bytes-eq8 : goal.returns-then-bytes-eq8
returns-then-bytes-eq8 c = rw c.if-bytes-eq8.true at c.read-read.ensures.0 ∙ full 8 c.args.bytes.now 0 (omega arith)

-- with its bit 1 it is a byte wider
wider : (c : Else-bytes-eq8) → c.read-read.result * 256 + 128 < 2 ^ (8 * suc (length c.args.bytes.now))
wider c = grown (length c.args.bytes.now) _ 128 c.read-read.ensures.1 (omega arith)

fits : (c : Else-bytes-eq8) → c.read-read.result * 256 + 128 < 2 ^ 64
fits c = word (suc (length c.args.bytes.now)) _ (omega arith) (wider c)

pub overflow_mul-result : goal.overflow_mul-result
overflow_mul-result c = omega (arith, fits c)

pub overflow_add-result : goal.overflow_add-result
overflow_add-result c = omega (arith, fits c)

pub returns : goal.returns
returns c =
    let bytes = c.args.bytes.now in
    let n = length bytes in
    shl_exact (8 * suc n) (8 * (7 - n)) 64 (wider c) (omega arith)
    ∙ rw c.read-read.ensures.0 (short 8 bytes 0 n (7 - n) (omega arith) (omega arith))

-- `capture::digits::number` meets its contract: each order reads its own number. Assumes nothing.
use Rattle.std.proofs.Common.{arith}
use Rattle.capture.proofs.Numbers.{four_bytes}
use Rattle.capture.proofs.digits.number.Goals as goal

pub returns-in-HighFirst : goal.returns-in-HighFirst
returns-in-HighFirst c =
    let e = c.read.ensures in
    (rw c.in-HighFirst.is e.0, four_bytes _ _ (omega arith) e.1)

pub returns-in-LowFirst : goal.returns-in-LowFirst
returns-in-LowFirst c =
    let e = c.read_low_first.ensures in
    (rw c.in-LowFirst.is e.0, four_bytes _ _ (omega arith) e.1)

-- `entries::filling::write_prefixed` meets its contract: the bytes are written behind their length, and zeros behind them. Assumes nothing.
use Rattle.std.proofs.Common.{arith}
use Rattle.entries.proofs.Stretches.{prefixed_written}
use Rattle.entries.proofs.filling.write_prefixed.Goals as goal

pub returns : goal.returns
returns c =
    let a = c.args in
    prefixed_written a.out.now a.at a.bytes.now a.room (omega arith) c.write.ensures c.copy.ensures c.clear.ensures

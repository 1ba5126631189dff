-- Four writes, each behind the one before. Assumes nothing.
use Rattle.std.proofs.Common.{arith}
use Rattle.octets.specs.Octets.{bytes_of}
use Rattle.octets.proofs.BigEndian.{length_bytes}
use Rattle.octets.proofs.Places.{put_four}
use Rattle.entries.proofs.filling.write_head.Goals as goal

pub returns : goal.returns
returns c =
    let a = c.args in
    let k = c.keys.inside in
    rw (← c.keys.view_is)
    (put_four a.slot.now _ _ _ _ 0 1 2 3 (bytes_of 1 1) (bytes_of 1 k.flag) (bytes_of 1 k.suite) (bytes_of 1 k.edition) (omega arith)
    (rw length_bytes)
    (rw length_bytes)
    (rw length_bytes)
    c.write.ensures
    c.write-2.ensures
    c.write-3.ensures
    c.write-4.ensures)

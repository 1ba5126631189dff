-- Size, and the start behind it. Assumes nothing.
use Rattle.std.proofs.Common.{refl, arith}
use Rattle.octets.specs.Octets.{bytes_of}
use Rattle.octets.proofs.BigEndian.{length_bytes}
use Rattle.octets.proofs.Places.{Written, and_then}
use Rattle.slots.specs.Table.{size_at, start_at}
use Rattle.entries.proofs.filling.write_frame.Goals as goal

pub returns : goal.returns
returns c =
    let a = c.args in
    let size : Written a.slot.now size_at (bytes_of 8 a.frame.size) _ start_at = record { ends = rw length_bytes; is = c.write.ensures } in
    (and_then size (omega arith) (bytes_of 8 a.frame.start) _ refl c.write-2.ensures).is

-- `derivation::write_data` meets its contract: seven pieces are written side by side. Assumes nothing.
use Rattle.std.proofs.Common.{◌≡◌, arith}
use Rattle.format.specs.Suite.{label_of}
use Rattle.derivation.proofs.Pieces.{data_written}
use Rattle.derivation.proofs.write_data.Goals as goal

pub overflow_add-at-3 : goal.overflow_add-at-3
overflow_add-at-3 c = let p = c.requires in omega arith

pub write-requires-5 : goal.write-requires-5
write-requires-5 c = let p = c.requires in omega arith

pub returns : goal.returns
returns c =
    let label : c.label-label.result ≡ label_of c.args.purpose.suite = c.label-label.ensures in
    data_written c.args.purpose.suite c.args.purpose.edition c.args.source.now c.args.purpose.seqnum c.args.out.now (omega (arith, c.requires.1))
    (rw label at c.copy.ensures) c.write.ensures (rw c.serial.ensures at c.write-2.ensures) c.copy-2.ensures
    (rw c.number.ensures at c.write-3.ensures) c.write-4.ensures
    (rw c.output_bits.ensures at c.write-5.ensures)

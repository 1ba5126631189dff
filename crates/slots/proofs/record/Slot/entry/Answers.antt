-- Four words, read from the lowest up, write the marks. Assumes nothing.
use Rattle.slots.proofs.Windows.{window_is, entry_is}
use Rattle.slots.proofs.record.Slot.entry.Goals as goal

pub returns : goal.returns
returns c =
    let s = c.args.self.now in
    entry_is s
    (window_is s c.frame.ensures c.number.ensures c.number-2.ensures c.number-3.ensures c.number-4.ensures c.number-5.ensures)
    c.accepted.ensures
    c.bytes.ensures
    c.counters.ensures

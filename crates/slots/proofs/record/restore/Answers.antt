-- The counters are written behind window and totals. Assumes nothing.
use Rattle.std.proofs.Common.{arith}
use Rattle.window.specs.Entry.{entry_view}
use Rattle.slots.specs.Table.{slot_of, restored_in, restored}
use Rattle.slots.proofs.Settled.{length_restored}
use Rattle.slots.proofs.Settling.{restored_put, written_back}
use Rattle.slots.proofs.Slots.{length_of_slot, lent_length}
use Rattle.slots.proofs.record.restore.Goals as goal

pub returns : goal.returns
unfolding restored
returns c =
    let a = c.args in
    let from = c.offset-from.ensures in
    let entry = entry_view a.entry.now in
    written_back a.table.now a.slot _ _ (restored_in entry) _ from.value (omega arith)
    (restored_put _ _ _ _ entry (lent_length a.table.now a.slot _ _ (omega arith) from.within from.value (omega arith)) c.settle.ensures c.write.ensures c.write-2.ensures)
    (length_restored (slot_of a.table.now a.slot) entry (length_of_slot a.table.now a.slot (omega arith) from.within))

-- The entry that was read takes the message, and window and totals are written back. Assumes nothing.
use Rattle.std.proofs.Common.{ap, ◌∙◌, arith}
use Rattle.window.specs.Entry.{Entry, entry_view, taken, undamaged_entry}
use Rattle.slots.specs.Table.{slot_of, settled_in, settled, replaced}
use Rattle.slots.proofs.Damage.{entry_passes}
use Rattle.slots.proofs.Settled.{length_now}
use Rattle.slots.proofs.Settling.{written_back}
use Rattle.slots.proofs.Slots.{length_of_slot}
use Rattle.slots.proofs.record.take.Goals as goal

pub taken-requires : goal.taken-requires
taken-requires c =
    let p = c.requires in
    record {
      short = omega (arith, p.short);
      is_undamaged = ap undamaged_entry p.is_undamaged.entry ∙ entry_passes _ p.is_undamaged.unharmed;
      admissible = p.admissible;
    }

pub returns : goal.returns
unfolding settled
returns c =
    let a = c.args in
    let slot = slot_of a.table.now a.slot in
    let from = c.offset-from.ensures in
    let entry = entry_view c.taken.result in
    written_back a.table.now a.slot _ _ (settled_in entry) _ from.value (omega arith) c.settle.ensures
    (length_now slot entry (length_of_slot a.table.now a.slot (omega arith) from.within))
    ∙ ap (λ (e : Entry). replaced a.table.now a.slot (settled_in e slot))
    (c.taken.ensures ∙ ap (λ (e : Entry). taken e a.number a.payload) c.requires.is_undamaged.entry)

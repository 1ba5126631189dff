-- Each stretch is written behind the last, and they are the slot. Assumes nothing.
use Rattle.std.proofs.Common.{◌≡◌, ◌∙◌, List, ℕ, ap, arith}
use Rattle.octets.specs.Octets.{put}
use Rattle.octets.proofs.Places.{length_put}
use Rattle.slots.specs.Table.{slot_of, replaced, key_id_length_at, key_id_room, source_length_at, source_room, key_at}
use Rattle.slots.proofs.Settling.{written_back}
use Rattle.slots.proofs.Slots.{length_of_slot, lent_length}
use Rattle.entries.specs.Fresh.{prefixed, fresh_slot}
use Rattle.entries.proofs.Stretches.{fills, length_entry, put_whole}
use Rattle.entries.proofs.filling.write_entry.Goals as goal

pub returns : goal.returns
returns c =
    let a = c.args in
    let k = a.keys.now in
    let named : c.write_prefixed.new.out ≡ put c.write_head.new.slot key_id_length_at (prefixed key_id_room k.key_id) = rw (← c.keys.view_is) c.write_prefixed.ensures in
    let sourced : c.write_prefixed-2.new.out ≡ put c.write_prefixed.new.out source_length_at (prefixed source_room k.source) = rw (← c.keys.view_is) c.write_prefixed-2.ensures in
    let keyed : c.copy.new.out ≡ put c.write_prefixed-2.new.out key_at k.key = rw (← c.keys.view_is) c.copy.ensures in
    let from = c.offset-from.ensures in
    let long = length_entry k a.frame c.requires in
    let whole = length_of_slot a.table.now a.slot (omega arith) from.within in
    written_back a.table.now a.slot _ _ (λ (s : List ℕ). put s 0 (fresh_slot k a.frame)) _ from.value (omega arith)
    (fills k a.frame c.requires _ (lent_length a.table.now a.slot _ _ (omega arith) from.within from.value (omega arith))
    c.write_head.ensures named sourced keyed c.write_frame.ensures c.clear.ensures)
    (length_put (slot_of a.table.now a.slot) 0 (fresh_slot k a.frame) (omega (arith, long, whole)) ∙ whole)
    ∙ ap (replaced a.table.now a.slot) (put_whole (slot_of a.table.now a.slot) (fresh_slot k a.frame) (omega (arith, long, whole)))

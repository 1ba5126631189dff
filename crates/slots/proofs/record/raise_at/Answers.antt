-- The counter is read and written in its place. Assumes nothing.
use Rattle.std.proofs.Common.{List, ℕ, ap, ◌∙◌, arith, drop}
use Rattle.octets.specs.Octets.{big_endian, bytes_of, put}
use Rattle.window.specs.Counters.{one_more}
use Rattle.slots.specs.Table.{slot_of, raised, replaced}
use Rattle.slots.proofs.Rewriting.{length_written}
use Rattle.octets.proofs.BigEndian.{length_bytes}
use Rattle.slots.proofs.Settling.{written_back}
use Rattle.slots.proofs.Slots.{length_of_slot}
use Rattle.slots.proofs.record.raise_at.Goals as goal

pub returns : goal.returns
unfolding raised
returns c =
    let a = c.args in
    let from = c.offset-from.ensures in
    let read = c.number-refused.ensures ∙ ap (λ (s : List ℕ). big_endian 8 (drop a.counter s)) c.at.ensures.value in
    written_back a.table.now a.slot _ _ (λ (s : List ℕ). put s a.counter (bytes_of 8 c.one_more.result)) _ from.value (omega arith) c.write.ensures
    (length_written (slot_of a.table.now a.slot) a.counter (bytes_of 8 c.one_more.result) (length_of_slot a.table.now a.slot (omega arith) from.within) (omega (arith, c.requires)) (rw length_bytes c.requires.1))
    ∙ ap (λ (n : ℕ). replaced a.table.now a.slot (put (slot_of a.table.now a.slot) a.counter (bytes_of 8 n))) (c.one_more.ensures ∙ ap one_more read)

-- The test of a slot is whether it is another and matches. Assumes nothing.
use Rattle.std.proofs.Common.{rules, not, ◌&&◌, eqb}
use Rattle.slots.specs.Table.{slot_of}
use Rattle.lookup.specs.Lookup.{matches, leads_elsewhere}
use Rattle.lookup.proofs.leads_elsewhere.Goals as goal

pub returns : goal.returns
unfolding leads_elsewhere
returns c = let a = c.args in c.first_slot.ensures (λ i. not (eqb i a.slot) && matches a.flag a.keyid.now a.source.now (slot_of a.table.now i)) (λ i b small told. search rules)

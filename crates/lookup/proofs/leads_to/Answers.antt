-- The test of a slot is whether it matches. Assumes nothing.
use Rattle.std.proofs.Common.{rules}
use Rattle.slots.specs.Table.{slot_of}
use Rattle.lookup.specs.Lookup.{matches, leads_to}
use Rattle.lookup.proofs.leads_to.Goals as goal

pub returns : goal.returns
unfolding leads_to
returns c = let a = c.args in c.first_slot.ensures (λ i. matches a.flag a.keyid.now a.source.now (slot_of a.table.now i)) (λ i b small told. search rules)

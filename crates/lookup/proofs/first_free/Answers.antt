-- The test of a slot is whether it is free. Assumes nothing.
use Rattle.std.proofs.Common.{rules, not}
use Rattle.slots.specs.Table.{slot_of, occupied}
use Rattle.lookup.specs.Lookup.{first_free}
use Rattle.lookup.proofs.first_free.Goals as goal

pub returns : goal.returns
unfolding first_free
returns c = c.first_slot.ensures (λ i. not (occupied (slot_of c.args.table.now i))) (λ i b small told. search rules)

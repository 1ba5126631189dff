-- The bytes of that number stand in the slot. Assumes nothing.
use Rattle.slots.proofs.Shown.{highest_there}
use Rattle.slots.proofs.record.highest_in.Goals as goal

pub returns : goal.returns
returns c = highest_there c.args.content.now c.requires (λ i. (c.type_inv.content i).fits)

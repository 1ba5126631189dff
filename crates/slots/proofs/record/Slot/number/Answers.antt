-- The eight bytes that are read are those of the slot. Assumes nothing.
use Rattle.std.proofs.Common.{arith, ap, ◌∙◌, List, ℕ, ◌+◌, ◌-◌, drop}
use Rattle.octets.specs.Octets.{big_endian}
use Rattle.slots.proofs.Numbers.{number_read}
use Rattle.slots.proofs.record.Slot.number.Goals as goal

pub returns : goal.returns
returns c =
    let at = c.args.at in
    let whole = rw c.unwrap.ensures at c.try_into.ensures in
    c.from_be_bytes.ensures ∙ number_read at (at + 8 - at) _ _ (omega arith) whole.1.same ∙ ap (λ (l : List ℕ). big_endian 8 (drop at l)) c.self.view_is

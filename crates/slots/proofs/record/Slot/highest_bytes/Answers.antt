-- The bytes are those of the slot. Assumes nothing.
use Rattle.std.proofs.Common.{ap, ◌∙◌, List, ℕ}
use Rattle.octets.specs.Octets.{bytes_of}
use Rattle.slots.specs.Table.{window_of}
use Rattle.slots.proofs.record.Slot.highest_bytes.Goals as goal

pub returns : goal.returns
returns c = c.highest_in.ensures ∙ ap (λ (s : List ℕ). bytes_of 6 (window_of s).highest) c.self.view_is

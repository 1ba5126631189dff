-- The bytes are those of the slot. Assumes nothing.
use Rattle.std.proofs.Common.{ap, ◌∙◌, List, ℕ}
use Rattle.octets.specs.Octets.{bytes_of}
use Rattle.slots.specs.Table.{window_of}
use Rattle.slots.proofs.record.Slot.marks_bytes.Goals as goal

pub returns : goal.returns
returns c = c.marks_in.ensures ∙ ap (λ (s : List ℕ). bytes_of 32 (window_of s).marks) c.self.view_is

-- A source too long for its place is unsound. Assumes nothing.
use Rattle.slots.proofs.Damage.{long_source}
use Rattle.slots.proofs.record.Slot.is_sound.Goals as goal

pub returns-then-content-gt-GREATEST_SOURCE : goal.returns-then-content-gt-GREATEST_SOURCE
returns-then-content-gt-GREATEST_SOURCE c =
    rw c.self.view_is at (long_source c.self.inside.content.now c.self.invariant c.if-content-gt-GREATEST_SOURCE.true)

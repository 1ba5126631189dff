-- The key data decide, and then window, totals and counters. Assumes nothing.
use Rattle.std.proofs.Common.{sym, ap, ◌∙◌}
use Rattle.window.specs.Entry.{undamaged_entry}
use Rattle.slots.proofs.Damage.{damaged_unsound, undamaged_by_entry}
use Rattle.slots.proofs.record.Slot.is_undamaged_by.Goals as goal

pub returns-then-not-is_sound : goal.returns-then-not-is_sound
returns-then-not-is_sound c = damaged_unsound _ (sym c.if-not-is_sound.true ∙ c.is_sound.ensures)

pub returns : goal.returns
returns c =
    c.is_undamaged.ensures ∙ ap undamaged_entry c.requires
    ∙ undamaged_by_entry c.args.self.now (sym c.is_sound.ensures ∙ c.if-not-is_sound.false)

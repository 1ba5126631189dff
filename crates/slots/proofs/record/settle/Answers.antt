-- Four writes, each behind the one before. Assumes nothing.
use Rattle.window.specs.Entry.{entry_view}
use Rattle.slots.proofs.Settling.{settled_put}
use Rattle.slots.proofs.record.settle.Goals as goal

pub returns : goal.returns
returns c =
    settled_put c.args.slot.now _ _ _ _ (entry_view c.args.entry.now) c.requires
    c.write.ensures
    c.write_marks.ensures
    c.write-2.ensures
    c.write-3.ensures

-- `promises::start::changed_highest` says what is proved of that name in `promises.proofs.Changes`. Assumes nothing.
use Rattle.promises.proofs.Changes.{changed_highest}
use Rattle.promises.proofs.start.changed_highest.Goals as goal

pub returns : goal.returns
returns c = λ m e.
    changed_highest m.table m.long m.slot m.keys m.frame m.bytes m.first m.calls m.came m.made m.done m.going e.begins e.calls e.came e.made e.going

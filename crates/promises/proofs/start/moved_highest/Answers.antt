-- `promises::start::moved_highest` says what is proved of that name in `promises.proofs.Starts`. Assumes nothing.
use Rattle.promises.proofs.Starts.{moved_highest}
use Rattle.promises.proofs.start.moved_highest.Goals as goal

pub returns : goal.returns
returns c = λ m e.
    moved_highest m.table m.long m.keys m.frame m.bytes m.slot m.first m.calls m.came m.made m.done m.going e.begins e.calls e.came e.made e.going

-- `promises::start::moved_key` says what is proved of that name in `promises.proofs.Starts`. Assumes nothing.
use Rattle.promises.proofs.Starts.{moved_key}
use Rattle.promises.proofs.start.moved_key.Goals as goal

pub returns : goal.returns
returns c = λ m. moved_key m.table m.long m.keys m.frame m.bytes m.slot m.first m.calls m.came m.made m.done m.going

-- `promises::start::all_again` says what is proved of that name in `promises.proofs.Changes`. Assumes nothing.
use Rattle.promises.proofs.Changes.{all_again}
use Rattle.promises.proofs.start.all_again.Goals as goal

pub returns : goal.returns
returns c = λ m i t rs begins made going. all_again begins m.calls rs made going m.table m.long m.bytes m.slot m.first m.came m.made m.done m.going

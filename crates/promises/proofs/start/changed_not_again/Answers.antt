-- `promises::start::changed_not_again` says what is proved of that name in `promises.proofs.Changes`. Assumes nothing.
use Rattle.promises.proofs.Changes.{changed_not_again}
use Rattle.promises.proofs.start.changed_not_again.Goals as goal

pub returns : goal.returns
returns c = λ m. changed_not_again m.table m.long m.slot m.keys m.frame m.bytes m.first m.calls m.came m.made m.done m.going

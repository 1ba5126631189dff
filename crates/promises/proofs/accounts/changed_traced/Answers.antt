-- `promises::accounts::changed_traced` says what is proved of that name in `promises.proofs.Changes`. Assumes nothing.
use Rattle.promises.proofs.Changes.{changed_traced}
use Rattle.promises.proofs.accounts.changed_traced.Goals as goal

pub returns : goal.returns
returns c = λ m.
    changed_traced m.table m.long m.slot m.keys m.frame m.bytes m.first m.calls m.came m.made m.done m.going

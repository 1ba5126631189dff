-- `promises::accounts::installed_traced` says what is proved of that name in `promises.proofs.History`. Assumes nothing.
use Rattle.promises.proofs.History.{installed_traced}
use Rattle.promises.proofs.accounts.installed_traced.Goals as goal

pub returns : goal.returns
returns c = λ m.
    installed_traced m.table m.long m.keys m.frame m.bytes m.slot m.first m.calls m.came m.made m.done m.going

-- `promises::accounts::history_traced` says what is proved of that name in `promises.proofs.History`. Assumes nothing.
use Rattle.promises.proofs.History.{history_traced}
use Rattle.promises.proofs.accounts.history_traced.Goals as goal

pub returns : goal.returns
returns c = λ m. history_traced m.begins m.calls m.came m.made m.going

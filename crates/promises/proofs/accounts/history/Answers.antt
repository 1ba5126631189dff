-- `promises::accounts::history` says what is proved of that name in `promises.proofs.History`. Assumes nothing.
use Rattle.promises.proofs.History.{history}
use Rattle.promises.proofs.accounts.history.Goals as goal

pub returns : goal.returns
returns c = λ h. history h.begins h.calls h.goes

-- `promises::accounts::history_loaded` says what is proved of that name in `promises.proofs.Loads`. Assumes nothing.
use Rattle.promises.proofs.Loads.{history_loaded}
use Rattle.promises.proofs.accounts.history_loaded.Goals as goal

pub returns : goal.returns
returns c = λ h text l ds read done. history_loaded h.begins h.calls h.goes text l read done ds

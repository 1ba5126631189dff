-- `promises::accounts::load_history` says what is proved of that name in `promises.proofs.Loads`. Assumes nothing.
use Rattle.promises.proofs.Loads.{load_history}
use Rattle.promises.proofs.accounts.load_history.Goals as goal

pub returns : goal.returns
returns c = λ h text l read. load_history h.begins h.calls h.goes text l read

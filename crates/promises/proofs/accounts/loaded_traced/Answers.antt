-- `promises::accounts::loaded_traced` says what is proved of that name in `promises.proofs.Loads`. Assumes nothing.
use Rattle.promises.proofs.Loads.{loaded_traced}
use Rattle.promises.proofs.accounts.loaded_traced.Goals as goal

pub returns : goal.returns
returns c = λ h text l r ds rs read. loaded_traced h.begins h.calls h.goes text l read r ds rs

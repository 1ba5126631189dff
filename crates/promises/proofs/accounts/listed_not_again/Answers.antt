-- `promises::accounts::listed_not_again` says what is proved of that name in `promises.proofs.Loads`. Assumes nothing.
use Rattle.promises.proofs.Loads.{listed_not_again}
use Rattle.promises.proofs.accounts.listed_not_again.Goals as goal

pub returns : goal.returns
returns c = λ h text l ds c x read done goes bytes. listed_not_again h.begins h.calls h.goes text l read done ds goes c bytes x

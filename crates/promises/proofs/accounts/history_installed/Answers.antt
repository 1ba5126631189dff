-- `promises::accounts::history_installed` says what is proved of that name in `promises.proofs.History`. Assumes nothing.
use Rattle.promises.proofs.History.{history_installed}
use Rattle.promises.proofs.accounts.history_installed.Goals as goal

pub returns : goal.returns
returns c = λ t k f i cs long bytes done. history_installed t long k f bytes i done cs

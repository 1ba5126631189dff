-- `promises::accounts::history_within` says what is proved of that name in `promises.proofs.History`. Assumes nothing.
use Rattle.promises.proofs.History.{history_within}
use Rattle.promises.proofs.accounts.history_within.Goals as goal

pub returns : goal.returns
returns c = λ t before k f i cs long all bytes done. history_within t long before all k f bytes i done cs

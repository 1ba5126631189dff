-- `promises::accounts::history_changed` says what is proved of that name in `promises.proofs.Changes`. Assumes nothing.
use Rattle.promises.proofs.Changes.{history_changed}
use Rattle.promises.proofs.accounts.history_changed.Goals as goal

pub returns : goal.returns
returns c = λ t k f i cs long bytes done. history_changed t long i k f bytes done cs

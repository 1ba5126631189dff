-- `promises::accounts::install_begins` says what is proved of that name in `promises.proofs.Beginnings`. Assumes nothing.
use Rattle.promises.proofs.Beginnings.{install_begins}
use Rattle.promises.proofs.accounts.install_begins.Goals as goal

pub returns : goal.returns
returns c = λ t k f i long bytes. install_begins t long k f bytes i

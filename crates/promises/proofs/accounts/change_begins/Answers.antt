-- `promises::accounts::change_begins` says what is proved of that name in `promises.proofs.Beginnings`. Assumes nothing.
use Rattle.promises.proofs.Beginnings.{change_begins}
use Rattle.promises.proofs.accounts.change_begins.Goals as goal

pub returns : goal.returns
returns c = λ t k f i long bytes. change_begins t long k f bytes i

-- `promises::accounts::slot_begins` says what is proved of that name in `promises.proofs.Beginnings`. Assumes nothing.
use Rattle.promises.proofs.Beginnings.{slot_begins}
use Rattle.promises.proofs.accounts.slot_begins.Goals as goal

pub returns : goal.returns
returns c = λ t i long. slot_begins t long i

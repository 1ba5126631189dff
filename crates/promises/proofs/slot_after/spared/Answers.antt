-- `promises::slot_after::spared` says what is proved of that name in `promises.proofs.Runs`. Assumes nothing.
use Rattle.promises.proofs.Runs.{spared}
use Rattle.promises.proofs.slot_after.spared.Goals as goal

pub returns : goal.returns
returns c = λ i t cs. spared i t cs

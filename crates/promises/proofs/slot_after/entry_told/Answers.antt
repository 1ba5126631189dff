-- `promises::slot_after::entry_told` says what is proved of that name in `promises.proofs.History`. Assumes nothing.
use Rattle.promises.proofs.History.{entry_told}
use Rattle.promises.proofs.slot_after.entry_told.Goals as goal

pub returns : goal.returns
returns c = λ h c. entry_told h.begins h.calls h.goes c

-- `promises::slot_after::slot_told` says what is proved of that name in `promises.proofs.History`. Assumes nothing.
use Rattle.promises.proofs.History.{slot_told}
use Rattle.promises.proofs.slot_after.slot_told.Goals as goal

pub returns : goal.returns
returns c = λ h c. slot_told h.begins h.calls h.goes c

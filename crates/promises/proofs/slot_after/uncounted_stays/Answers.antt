-- `promises::slot_after::uncounted_stays` says what is proved of that name in `promises.proofs.History`. Assumes nothing.
use Rattle.promises.proofs.History.{uncounted_stays}
use Rattle.promises.proofs.slot_after.uncounted_stays.Goals as goal

pub returns : goal.returns
returns c = λ h c. uncounted_stays h.begins h.calls h.goes c

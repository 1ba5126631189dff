-- `promises::slot_after::apart_stays` says what is proved of that name in `promises.proofs.History`. Assumes nothing.
use Rattle.promises.proofs.History.{apart_stays}
use Rattle.promises.proofs.slot_after.apart_stays.Goals as goal

pub returns : goal.returns
returns c = λ h c. apart_stays h.begins h.calls h.goes c

-- `promises::slot_after::elsewhere_stays` says what is proved of that name in `promises.proofs.History`. Assumes nothing.
use Rattle.promises.proofs.History.{elsewhere_stays}
use Rattle.promises.proofs.slot_after.elsewhere_stays.Goals as goal

pub returns : goal.returns
returns c = λ h message source out. elsewhere_stays h.begins h.calls h.goes message source out

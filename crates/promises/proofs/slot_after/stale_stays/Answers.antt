-- `promises::slot_after::stale_stays` says what is proved of that name in `promises.proofs.History`. Assumes nothing.
use Rattle.promises.proofs.History.{stale_stays}
use Rattle.promises.proofs.slot_after.stale_stays.Goals as goal

pub returns : goal.returns
returns c = λ h message source out header bytes. stale_stays h.begins h.calls h.goes message source out bytes header

-- `promises::slot_after::never_damaged` says what is proved of that name in `promises.proofs.History`. Assumes nothing.
use Rattle.promises.proofs.History.{never_damaged}
use Rattle.promises.proofs.slot_after.never_damaged.Goals as goal

pub returns : goal.returns
returns c = λ h message source out header. never_damaged h.begins h.calls h.goes message source out header

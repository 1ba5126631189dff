-- `promises::slot_after::counted_moves` says what is proved of that name in `promises.proofs.History`. Assumes nothing.
use Rattle.promises.proofs.History.{counted_moves}
use Rattle.promises.proofs.slot_after.counted_moves.Goals as goal

pub returns : goal.returns
returns c = λ h c x goes. counted_moves h.begins h.calls h.goes c goes x

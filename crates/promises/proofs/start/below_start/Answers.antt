-- `promises::start::below_start` says what is proved of that name in `promises.proofs.Starts`. Assumes nothing.
use Rattle.promises.proofs.Starts.{below_start}
use Rattle.promises.proofs.start.below_start.Goals as goal

pub returns : goal.returns
returns c = λ h message source out header bytes room. below_start h.begins h.calls h.goes message source out bytes room header

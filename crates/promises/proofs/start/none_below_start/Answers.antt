-- `promises::start::none_below_start` says what is proved of that name in `promises.proofs.Starts`. Assumes nothing.
use Rattle.promises.proofs.Starts.{none_below_start}
use Rattle.promises.proofs.start.none_below_start.Goals as goal

pub returns : goal.returns
returns c = λ h c x bytes. none_below_start h.begins h.calls h.goes c bytes x

-- `promises::start::handed_from_start` says what is proved of that name in `promises.proofs.Starts`. Assumes nothing.
use Rattle.promises.proofs.Starts.{handed_from_start}
use Rattle.promises.proofs.start.handed_from_start.Goals as goal

pub returns : goal.returns
returns c = λ m. handed_from_start m.begins m.calls m.came m.made m.going

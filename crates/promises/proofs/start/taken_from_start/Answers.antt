-- `promises::start::taken_from_start` says what is proved of that name in `promises.proofs.Starts`. Assumes nothing.
use Rattle.promises.proofs.Starts.{taken_from_start}
use Rattle.promises.proofs.start.taken_from_start.Goals as goal

pub returns : goal.returns
returns c = λ t message source out long. taken_from_start t long message source out

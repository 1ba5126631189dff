-- `promises::restarting::prints` says what is proved of that name in `promises.proofs.Restarts`. Assumes nothing.
use Rattle.promises.proofs.Restarts.{prints}
use Rattle.promises.proofs.restarting.prints.Goals as goal

pub returns : goal.returns
returns c = λ h out keyid source. prints h.begins keyid source h.calls h.goes out

-- `promises::restarting::empty_installs` says what is proved of that name in `promises.proofs.Restarts`. Assumes nothing.
use Rattle.promises.proofs.Restarts.{empty_installs}
use Rattle.promises.proofs.restarting.empty_installs.Goals as goal

pub returns : goal.returns
returns c = λ t k f i. empty_installs t k f i

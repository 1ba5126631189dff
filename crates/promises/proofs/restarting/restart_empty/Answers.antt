-- `promises::restarting::restart_empty` says what is proved of that name in `promises.proofs.Restarts`. Assumes nothing.
use Rattle.promises.proofs.Restarts.{restart_empty}
use Rattle.promises.proofs.restarting.restart_empty.Goals as goal

pub returns : goal.returns
returns c = λ t k f cs out es long keyid source done goes room. restart_empty t long k f keyid source done cs goes out room es

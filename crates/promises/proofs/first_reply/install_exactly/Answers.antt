-- `promises::first_reply::install_exactly` says what is proved of that name in `promises.proofs.Replies`. Assumes nothing.
use Rattle.promises.proofs.Replies.{install_exactly}
use Rattle.promises.proofs.first_reply.install_exactly.Goals as goal

pub returns : goal.returns
returns c = λ t k f. install_exactly t k f

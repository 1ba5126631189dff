-- `promises::first_reply::install_reply` says what is proved of that name in `promises.proofs.Replies`. Assumes nothing.
use Rattle.promises.proofs.Replies.{install_reply}
use Rattle.promises.proofs.first_reply.install_reply.Goals as goal

pub returns : goal.returns
returns c = λ t k f. install_reply t k f

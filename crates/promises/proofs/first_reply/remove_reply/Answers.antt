-- `promises::first_reply::remove_reply` says what is proved of that name in `promises.proofs.Replies`. Assumes nothing.
use Rattle.promises.proofs.Replies.{remove_reply}
use Rattle.promises.proofs.first_reply.remove_reply.Goals as goal

pub returns : goal.returns
returns c = λ t i. remove_reply t i

-- `promises::first_reply::receive_reply` says what is proved of that name in `promises.proofs.Replies`. Assumes nothing.
use Rattle.promises.proofs.Replies.{receive_reply}
use Rattle.promises.proofs.first_reply.receive_reply.Goals as goal

pub returns : goal.returns
returns c = λ t m source out. receive_reply t m source out

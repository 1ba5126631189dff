-- `promises::first_reply::receive_exactly` says what is proved of that name in `promises.proofs.Replies`. Assumes nothing.
use Rattle.promises.proofs.Replies.{receive_exactly}
use Rattle.promises.proofs.first_reply.receive_exactly.Goals as goal

pub returns : goal.returns
returns c = λ t m source out. receive_exactly t m source out

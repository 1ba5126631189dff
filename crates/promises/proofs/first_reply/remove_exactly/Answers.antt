-- `promises::first_reply::remove_exactly` says what is proved of that name in `promises.proofs.Replies`. Assumes nothing.
use Rattle.promises.proofs.Replies.{remove_exactly}
use Rattle.promises.proofs.first_reply.remove_exactly.Goals as goal

pub returns : goal.returns
returns c = λ t i. remove_exactly t i

-- `promises::first_reply::change_exactly` says what is proved of that name in `promises.proofs.Replies`. Assumes nothing.
use Rattle.promises.proofs.Replies.{change_exactly}
use Rattle.promises.proofs.first_reply.change_exactly.Goals as goal

pub returns : goal.returns
returns c = λ t i k f. change_exactly t i k f

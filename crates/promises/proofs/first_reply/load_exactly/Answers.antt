-- `promises::first_reply::load_exactly` says what is proved of that name in `promises.proofs.Replies`. Assumes nothing.
use Rattle.promises.proofs.Replies.{load_exactly}
use Rattle.promises.proofs.first_reply.load_exactly.Goals as goal

pub returns : goal.returns
returns c = λ t text. load_exactly t text

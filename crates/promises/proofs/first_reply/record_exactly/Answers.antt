-- `promises::first_reply::record_exactly` says what is proved of that name in `promises.proofs.Replies`. Assumes nothing.
use Rattle.promises.proofs.Replies.{record_exactly}
use Rattle.promises.proofs.first_reply.record_exactly.Goals as goal

pub returns : goal.returns
returns c = λ o file at some. record_exactly o file at some

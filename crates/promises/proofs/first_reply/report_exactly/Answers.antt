-- `promises::first_reply::report_exactly` says what is proved of that name in `promises.proofs.Replies`. Assumes nothing.
use Rattle.promises.proofs.Replies.{report_exactly}
use Rattle.promises.proofs.first_reply.report_exactly.Goals as goal

pub returns : goal.returns
returns c = λ t file out. report_exactly t file out

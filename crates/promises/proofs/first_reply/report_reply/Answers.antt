-- `promises::first_reply::report_reply` says what is proved of that name in `promises.proofs.Replies`. Assumes nothing.
use Rattle.promises.proofs.Replies.{report_reply}
use Rattle.promises.proofs.first_reply.report_reply.Goals as goal

pub returns : goal.returns
returns c = λ t file out. report_reply t file out

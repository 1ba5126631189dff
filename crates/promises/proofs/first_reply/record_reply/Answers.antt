-- `promises::first_reply::record_reply` says what is proved of that name in `promises.proofs.Replies`. Assumes nothing.
use Rattle.promises.proofs.Replies.{record_reply}
use Rattle.promises.proofs.first_reply.record_reply.Goals as goal

pub returns : goal.returns
returns c = λ o file at some. record_reply o file at some

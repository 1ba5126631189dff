-- `promises::first_reply::change_reply` says what is proved of that name in `promises.proofs.Replies`. Assumes nothing.
use Rattle.promises.proofs.Replies.{change_reply}
use Rattle.promises.proofs.first_reply.change_reply.Goals as goal

pub returns : goal.returns
returns c = λ t i k f. change_reply t i k f

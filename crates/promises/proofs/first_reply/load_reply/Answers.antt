-- `promises::first_reply::load_reply` says what is proved of that name in `promises.proofs.Replies`. Assumes nothing.
use Rattle.promises.proofs.Replies.{load_reply}
use Rattle.promises.proofs.first_reply.load_reply.Goals as goal

pub returns : goal.returns
returns c = λ t text. load_reply t text

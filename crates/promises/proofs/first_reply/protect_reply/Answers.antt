-- `promises::first_reply::protect_reply` says what is proved of that name in `promises.proofs.Replies`. Assumes nothing.
use Rattle.promises.proofs.Replies.{protect_reply}
use Rattle.promises.proofs.first_reply.protect_reply.Goals as goal

pub returns : goal.returns
returns c = λ s payload out. protect_reply s payload out

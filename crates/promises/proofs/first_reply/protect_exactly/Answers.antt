-- `promises::first_reply::protect_exactly` says what is proved of that name in `promises.proofs.Replies`. Assumes nothing.
use Rattle.promises.proofs.Replies.{protect_exactly}
use Rattle.promises.proofs.first_reply.protect_exactly.Goals as goal

pub returns : goal.returns
returns c = λ s payload out. protect_exactly s payload out

-- `promises::first_reply::listing_reply` says what is proved of that name in `promises.proofs.Replies`. Assumes nothing.
use Rattle.promises.proofs.Replies.{listing_reply}
use Rattle.promises.proofs.first_reply.listing_reply.Goals as goal

pub returns : goal.returns
returns c = λ t i out. listing_reply t i out

-- `promises::first_reply::listing_exactly` says what is proved of that name in `promises.proofs.Replies`. Assumes nothing.
use Rattle.promises.proofs.Replies.{listing_exactly}
use Rattle.promises.proofs.first_reply.listing_exactly.Goals as goal

pub returns : goal.returns
returns c = λ t i out. listing_exactly t i out

-- `promises::first_reply::cases_hold` says what is proved of that name in `promises.specs.Cases`. Assumes nothing.
use Rattle.promises.specs.Cases.{cases_hold}
use Rattle.promises.proofs.first_reply.cases_hold.Goals as goal

pub returns : goal.returns
returns c = cases_hold

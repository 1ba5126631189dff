-- `promises::listings::loadable_is` says what is proved of that name in `loading.proofs.Outcomes`. Assumes nothing.
use Rattle.loading.proofs.Outcomes.{loadable_is}
use Rattle.promises.proofs.listings.loadable_is.Goals as goal

pub returns : goal.returns
returns c = λ t text l long. loadable_is t text long l

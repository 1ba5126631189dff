-- `promises::messages::none_share` says what is proved of that name in `derivation.proofs.Serials`. Assumes nothing.
use Rattle.derivation.proofs.Serials.{none_share}
use Rattle.promises.proofs.messages.none_share.Goals as goal

pub returns : goal.returns
returns c = none_share

-- `promises::messages::far_share` says what is proved of that name in `derivation.proofs.Serials`. Assumes nothing.
use Rattle.derivation.proofs.Serials.{far_share}
use Rattle.promises.proofs.messages.far_share.Goals as goal

pub returns : goal.returns
returns c = far_share

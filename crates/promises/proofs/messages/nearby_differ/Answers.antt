-- `promises::messages::nearby_differ` says what is proved of that name in `derivation.proofs.Serials`. Assumes nothing.
use Rattle.derivation.proofs.Serials.{nearby_differ}
use Rattle.promises.proofs.messages.nearby_differ.Goals as goal

pub returns : goal.returns
returns c = nearby_differ

-- `promises::messages::sealed_right` says what is proved of that name in `message.proofs.RoundTrip`. Assumes nothing.
use Rattle.promises.proofs.RoundTrip.{writable_of as writable}
use Rattle.message.proofs.RoundTrip.{sealed_right}
use Rattle.promises.proofs.messages.sealed_right.Goals as goal

pub returns : goal.returns
returns c = λ s k n payload w. sealed_right s k n payload (writable w) w.short

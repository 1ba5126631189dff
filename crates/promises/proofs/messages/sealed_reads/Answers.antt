-- `promises::messages::sealed_reads` says what is proved of that name in `message.proofs.RoundTrip`. Assumes nothing.
use Rattle.promises.proofs.RoundTrip.{writable_of as writable}
use Rattle.message.proofs.RoundTrip.{sealed_reads}
use Rattle.promises.proofs.messages.sealed_reads.Goals as goal

pub returns : goal.returns
returns c = λ s k n payload w. sealed_reads s k n payload (writable w) w.short

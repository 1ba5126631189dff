-- `promises::messages::same_message` says what is proved of that name in `message.proofs.Editions`. Assumes nothing.
use Rattle.message.proofs.Editions.{same_message}
use Rattle.promises.proofs.messages.same_message.Goals as goal

pub returns : goal.returns
returns c = λ e f s k n payload. same_message e f s k n payload

-- `promises::messages::round_trip` says what is proved of that name in `promises.proofs.RoundTrip`. Assumes nothing.
use Rattle.promises.proofs.RoundTrip.{round_trip}
use Rattle.promises.proofs.messages.round_trip.Goals as goal

pub returns : goal.returns
returns c = λ s suite payload written t supplied out i ready. round_trip s suite payload written ready t supplied out i

-- `promises::handed_out::payload_stands` says what is proved of that name in `promises.proofs.History`. Assumes nothing.
use Rattle.promises.proofs.History.{payload_stands}
use Rattle.promises.proofs.handed_out.payload_stands.Goals as goal

pub returns : goal.returns
returns c = λ h message source out header x bytes read. payload_stands h.begins h.calls h.goes message source out bytes header read x

-- `promises::handed_out::counters_answered` says what is proved of that name in `promises.proofs.Turned`. Assumes nothing.
use Rattle.promises.proofs.Turned.{counters_answered}
use Rattle.promises.proofs.handed_out.counters_answered.Goals as goal

pub returns : goal.returns
returns c = λ h. counters_answered h.begins h.calls h.goes

-- `promises::handed_out::all_handed` says what is proved of that name in `promises.proofs.History`. Assumes nothing.
use Rattle.promises.proofs.History.{all_handed}
use Rattle.promises.proofs.handed_out.all_handed.Goals as goal

pub returns : goal.returns
returns c = λ h. all_handed h.begins h.calls h.goes

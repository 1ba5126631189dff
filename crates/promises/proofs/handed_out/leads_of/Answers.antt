-- `promises::handed_out::leads_of` says what is proved of that name in `promises.proofs.History`. Assumes nothing.
use Rattle.promises.proofs.History.{leads_of}
use Rattle.promises.proofs.handed_out.leads_of.Goals as goal

pub returns : goal.returns
returns c = λ h header message source. leads_of h.begins h.calls h.goes header message source

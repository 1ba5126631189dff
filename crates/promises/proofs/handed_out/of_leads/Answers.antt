-- `promises::handed_out::of_leads` says what is proved of that name in `promises.proofs.History`. Assumes nothing.
use Rattle.promises.proofs.History.{of_leads}
use Rattle.promises.proofs.handed_out.of_leads.Goals as goal

pub returns : goal.returns
returns c = λ h header message source. of_leads h.begins h.calls h.goes header message source

-- `promises::handed_out::no_used_number` says what is proved of that name in `promises.proofs.History`. Assumes nothing.
use Rattle.promises.proofs.History.{no_used_number}
use Rattle.promises.proofs.handed_out.no_used_number.Goals as goal

pub returns : goal.returns
returns c = λ h c x bytes. no_used_number h.begins h.calls h.goes c bytes x

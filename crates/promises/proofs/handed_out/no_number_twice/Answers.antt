-- `promises::handed_out::no_number_twice` says what is proved of that name in `promises.proofs.History`. Assumes nothing.
use Rattle.promises.proofs.History.{no_number_twice}
use Rattle.promises.proofs.handed_out.no_number_twice.Goals as goal

pub returns : goal.returns
returns c = λ h c ds d x y goes bytes. no_number_twice h.begins h.calls h.goes c ds goes d bytes x y

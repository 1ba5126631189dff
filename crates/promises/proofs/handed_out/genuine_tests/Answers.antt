-- `promises::handed_out::genuine_tests` says what is proved of that name in `promises.proofs.History`. Assumes nothing.
use Rattle.promises.proofs.History.{genuine_tests}
use Rattle.promises.proofs.handed_out.genuine_tests.Goals as goal

pub returns : goal.returns
returns c = λ h message source out. genuine_tests h.begins h.calls h.goes message source out

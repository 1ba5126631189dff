-- `promises::reports::two_files` says what is proved of that name in `promises.proofs.Captures`. Assumes nothing.
use Rattle.promises.proofs.Captures.{two_files}
use Rattle.promises.proofs.reports.two_files.Goals as goal

pub returns : goal.returns
returns c = λ t first second out other long. two_files t long first second out other

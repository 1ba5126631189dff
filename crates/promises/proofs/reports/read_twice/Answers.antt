-- `promises::reports::read_twice` says what is proved of that name in `promises.proofs.Captures`. Assumes nothing.
use Rattle.promises.proofs.Captures.{read_twice}
use Rattle.promises.proofs.reports.read_twice.Goals as goal

pub returns : goal.returns
returns c = λ t file out others long bytes room. read_twice t long file out bytes room others

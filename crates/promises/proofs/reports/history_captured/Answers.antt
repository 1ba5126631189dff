-- `promises::reports::history_captured` says what is proved of that name in `promises.proofs.Captures`. Assumes nothing.
use Rattle.promises.proofs.Captures.{history_captured}
use Rattle.promises.proofs.reports.history_captured.Goals as goal

pub returns : goal.returns
returns c = λ b i t file out begins. history_captured begins file out

-- `promises::reports::reported_run` says what is proved of that name in `promises.proofs.Captures`. Assumes nothing.
use Rattle.promises.proofs.Captures.{reported_run}
use Rattle.promises.proofs.reports.reported_run.Goals as goal

pub returns : goal.returns
returns c = λ t file out. reported_run t file out

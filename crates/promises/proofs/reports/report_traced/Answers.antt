-- `promises::reports::report_traced` says what is proved of that name in `promises.proofs.Captures`. Assumes nothing.
use Rattle.promises.proofs.Captures.{report_traced}
use Rattle.promises.proofs.reports.report_traced.Goals as goal

pub returns : goal.returns
returns c = λ t cs rs file out a u x trace room. report_traced t cs rs trace file out room

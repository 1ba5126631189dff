-- `promises::refusal::report_keeps` says what is proved of that name in `promises.proofs.Refusals`. Assumes nothing.
use Rattle.promises.proofs.Refusals.{report_keeps}
use Rattle.promises.proofs.refusal.report_keeps.Goals as goal

pub returns : goal.returns
returns c = λ t file out. report_keeps t file out

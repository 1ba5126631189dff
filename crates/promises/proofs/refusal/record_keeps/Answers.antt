-- `promises::refusal::record_keeps` says what is proved of that name in `promises.proofs.Refusals`. Assumes nothing.
use Rattle.promises.proofs.Refusals.{record_keeps}
use Rattle.promises.proofs.refusal.record_keeps.Goals as goal

pub returns : goal.returns
returns c = λ t file o at. record_keeps t file o at

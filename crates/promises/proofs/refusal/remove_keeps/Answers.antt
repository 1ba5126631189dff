-- `promises::refusal::remove_keeps` says what is proved of that name in `promises.proofs.Refusals`. Assumes nothing.
use Rattle.promises.proofs.Refusals.{remove_keeps}
use Rattle.promises.proofs.refusal.remove_keeps.Goals as goal

pub returns : goal.returns
returns c = λ t i. remove_keeps t i

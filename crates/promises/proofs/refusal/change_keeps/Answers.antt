-- `promises::refusal::change_keeps` says what is proved of that name in `promises.proofs.Refusals`. Assumes nothing.
use Rattle.promises.proofs.Refusals.{change_keeps}
use Rattle.promises.proofs.refusal.change_keeps.Goals as goal

pub returns : goal.returns
returns c = λ t i k f. change_keeps t i k f

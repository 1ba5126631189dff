-- `promises::refusal::install_keeps` says what is proved of that name in `promises.proofs.Refusals`. Assumes nothing.
use Rattle.promises.proofs.Refusals.{install_keeps}
use Rattle.promises.proofs.refusal.install_keeps.Goals as goal

pub returns : goal.returns
returns c = λ t k f. install_keeps t k f

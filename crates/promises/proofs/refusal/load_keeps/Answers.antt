-- `promises::refusal::load_keeps` says what is proved of that name in `promises.proofs.Refusals`. Assumes nothing.
use Rattle.promises.proofs.Refusals.{load_keeps}
use Rattle.promises.proofs.refusal.load_keeps.Goals as goal

pub returns : goal.returns
returns c = λ t text. load_keeps t text

-- `promises::refusal::receive_keeps` says what is proved of that name in `promises.proofs.Refusals`. Assumes nothing.
use Rattle.promises.proofs.Refusals.{receive_keeps}
use Rattle.promises.proofs.refusal.receive_keeps.Goals as goal

pub returns : goal.returns
returns c = λ t m source out. receive_keeps t m source out

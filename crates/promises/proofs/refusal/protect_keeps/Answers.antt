-- `promises::refusal::protect_keeps` says what is proved of that name in `promises.proofs.Refusals`. Assumes nothing.
use Rattle.promises.proofs.Refusals.{protect_keeps}
use Rattle.promises.proofs.refusal.protect_keeps.Goals as goal

pub returns : goal.returns
returns c = λ s payload out. protect_keeps s payload out

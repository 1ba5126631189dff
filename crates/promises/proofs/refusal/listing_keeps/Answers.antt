-- `promises::refusal::listing_keeps` says what is proved of that name in `promises.proofs.Refusals`. Assumes nothing.
use Rattle.promises.proofs.Refusals.{listing_keeps}
use Rattle.promises.proofs.refusal.listing_keeps.Goals as goal

pub returns : goal.returns
returns c = λ t i out. listing_keeps t i out

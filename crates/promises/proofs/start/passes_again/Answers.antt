-- `promises::start::passes_again` says what is proved of that name in `promises.proofs.Changes`. Assumes nothing.
use Rattle.promises.proofs.Changes.{passes_again}
use Rattle.promises.proofs.start.passes_again.Goals as goal

pub returns : goal.returns
returns c = λ h c x u f j bytes gave long keyid start. passes_again h.begins h.calls h.goes c bytes x gave u long keyid f start j

-- `promises::reports::nothing_again` says what is proved of that name in `promises.proofs.Arrivals`. Assumes nothing.
use Rattle.promises.proofs.Arrivals.{nothing_again}
use Rattle.promises.proofs.reports.nothing_again.Goals as goal

pub returns : goal.returns
returns c = λ t cs others long. nothing_again t long cs others

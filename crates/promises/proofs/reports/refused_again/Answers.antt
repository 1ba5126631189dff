-- `promises::reports::refused_again` says what is proved of that name in `promises.proofs.Arrivals`. Assumes nothing.
use Rattle.promises.proofs.Arrivals.{refused_again}
use Rattle.promises.proofs.reports.refused_again.Goals as goal

pub returns : goal.returns
returns c = λ t c ds long arrives. refused_again t long c arrives ds

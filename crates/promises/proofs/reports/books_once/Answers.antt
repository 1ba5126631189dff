-- `promises::reports::books_once` says what is proved of that name in `promises.proofs.Arrivals`. Assumes nothing.
use Rattle.promises.proofs.Arrivals.{books_once}
use Rattle.promises.proofs.reports.books_once.Goals as goal

pub returns : goal.returns
returns c = λ t cs long. books_once t long cs

-- `promises::listings::print_after_load` says what is proved of that name in `promises.proofs.Loads`. Assumes nothing.
use Rattle.promises.proofs.Loads.{print_after_load}
use Rattle.promises.proofs.listings.print_after_load.Goals as goal

pub returns : goal.returns
returns c = λ t text out long done. print_after_load t long text done out

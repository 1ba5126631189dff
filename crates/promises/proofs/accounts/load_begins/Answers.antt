-- `promises::accounts::load_begins` says what is proved of that name in `promises.proofs.Loads`. Assumes nothing.
use Rattle.promises.proofs.Loads.{load_begins}
use Rattle.promises.proofs.accounts.load_begins.Goals as goal

pub returns : goal.returns
returns c = λ t text l i long read. load_begins t long text l read i

-- `promises::accounts::fresh_totals` says what is proved of that name in `promises.proofs.History`. Assumes nothing.
use Rattle.promises.proofs.History.{fresh_totals}
use Rattle.promises.proofs.accounts.fresh_totals.Goals as goal

pub returns : goal.returns
returns c = λ k f i t past. fresh_totals

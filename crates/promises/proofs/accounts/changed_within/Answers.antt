-- `promises::accounts::changed_within` says what is proved of that name in `promises.proofs.Changes`. Assumes nothing.
use Rattle.promises.proofs.Changes.{changed_within}
use Rattle.promises.proofs.accounts.changed_within.Goals as goal

pub returns : goal.returns
returns c = λ t before k f i cs long all bytes done. changed_within t long before all i k f bytes done cs

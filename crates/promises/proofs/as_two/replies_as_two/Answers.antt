-- `promises::as_two::replies_as_two` says what is proved of that name in `entries.proofs.AsTwo`. Assumes nothing.
use Rattle.entries.proofs.AsTwo.{replies_as_two}
use Rattle.promises.proofs.as_two.replies_as_two.Goals as goal

pub returns : goal.returns
returns c = λ t i k f long. replies_as_two t long i k f

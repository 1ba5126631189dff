-- `promises::as_two::change_is_two` says what is proved of that name in `entries.proofs.AsTwo`. Assumes nothing.
use Rattle.entries.proofs.AsTwo.{change_is_two}
use Rattle.promises.proofs.as_two.change_is_two.Goals as goal

pub returns : goal.returns
returns c = λ t i k f long bytes. change_is_two t long i k f bytes

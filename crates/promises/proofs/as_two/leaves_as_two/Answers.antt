-- `promises::as_two::leaves_as_two` says what is proved of that name in `promises.proofs.Changes`. Assumes nothing.
use Rattle.promises.proofs.Changes.{leaves_as_two}
use Rattle.promises.proofs.as_two.leaves_as_two.Goals as goal

pub returns : goal.returns
returns c = λ t i k f long bytes. leaves_as_two t long i k f bytes

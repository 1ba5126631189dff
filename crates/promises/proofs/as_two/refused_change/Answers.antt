-- `promises::as_two::refused_change` says what is proved of that name in `promises.proofs.Changes`. Assumes nothing.
use Rattle.promises.proofs.Changes.{refused_change}
use Rattle.promises.proofs.as_two.refused_change.Goals as goal

pub returns : goal.returns
returns c = λ t i k f long bytes. refused_change t long i k f bytes

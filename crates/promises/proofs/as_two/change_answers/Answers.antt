-- `promises::as_two::change_answers` says what is proved of that name in `promises.proofs.Changes`. Assumes nothing.
use Rattle.promises.proofs.Changes.{change_answers}
use Rattle.promises.proofs.as_two.change_answers.Goals as goal

pub returns : goal.returns
returns c = λ t i k f long bytes. change_answers t long i k f bytes

-- `promises::one_result::remove_determined` says what is proved of that name in `promises.proofs.Determined`. Assumes nothing.
use Rattle.promises.proofs.Determined.{remove_determined}
use Rattle.promises.proofs.one_result.remove_determined.Goals as goal

pub returns : goal.returns
returns c = λ table i a b t u. remove_determined table i

-- `promises::one_result::change_determined` says what is proved of that name in `promises.proofs.Determined`. Assumes nothing.
use Rattle.promises.proofs.Determined.{change_determined}
use Rattle.promises.proofs.one_result.change_determined.Goals as goal

pub returns : goal.returns
returns c = λ table i k f a b t u. change_determined table i k f

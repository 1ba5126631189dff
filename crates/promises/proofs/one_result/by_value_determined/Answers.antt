-- `promises::one_result::by_value_determined` says what is proved of that name in `promises.proofs.Determined`. Assumes nothing.
use Rattle.promises.proofs.Determined.{by_value_determined}
use Rattle.promises.proofs.one_result.by_value_determined.Goals as goal

pub returns : goal.returns
returns c = λ s payload out a b m n t u. by_value_determined s payload out

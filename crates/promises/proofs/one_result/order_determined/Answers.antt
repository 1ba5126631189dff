-- `promises::one_result::order_determined` says what is proved of that name in `promises.proofs.Determined`. Assumes nothing.
use Rattle.promises.proofs.Determined.{order_determined}
use Rattle.promises.proofs.one_result.order_determined.Goals as goal

pub returns : goal.returns
returns c = λ file o p. order_determined file

-- `promises::one_result::receive_determined` says what is proved of that name in `promises.proofs.Determined`. Assumes nothing.
use Rattle.promises.proofs.Determined.{receive_determined}
use Rattle.promises.proofs.one_result.receive_determined.Goals as goal

pub returns : goal.returns
returns c = λ table message source out a b t u x y. receive_determined table message source out

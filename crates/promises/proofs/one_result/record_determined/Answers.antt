-- `promises::one_result::record_determined` says what is proved of that name in `promises.proofs.Determined`. Assumes nothing.
use Rattle.promises.proofs.Determined.{record_determined}
use Rattle.promises.proofs.one_result.record_determined.Goals as goal

pub returns : goal.returns
returns c = λ o file at r s. record_determined o file at

-- `promises::one_result::load_determined` says what is proved of that name in `promises.proofs.Determined`. Assumes nothing.
use Rattle.promises.proofs.Determined.{load_determined}
use Rattle.promises.proofs.one_result.load_determined.Goals as goal

pub returns : goal.returns
returns c = λ table text a b t u. load_determined table text

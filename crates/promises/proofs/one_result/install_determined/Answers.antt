-- `promises::one_result::install_determined` says what is proved of that name in `promises.proofs.Determined`. Assumes nothing.
use Rattle.promises.proofs.Determined.{install_determined}
use Rattle.promises.proofs.one_result.install_determined.Goals as goal

pub returns : goal.returns
returns c = λ table k f a b t u. install_determined table k f

-- `promises::one_result::protect_determined` says what is proved of that name in `promises.proofs.Determined`. Assumes nothing.
use Rattle.promises.proofs.Determined.{protect_determined}
use Rattle.promises.proofs.one_result.protect_determined.Goals as goal

pub returns : goal.returns
returns c = λ s payload out a b x y t u. protect_determined s payload out

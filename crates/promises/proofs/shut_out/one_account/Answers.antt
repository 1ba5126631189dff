-- `promises::shut_out::one_account` says what is proved of that name in `promises.proofs.Worthless`. Assumes nothing.
use Rattle.promises.proofs.Worthless.{one_account}
use Rattle.promises.proofs.shut_out.one_account.Goals as goal

pub returns : goal.returns
returns c = λ b i j t u past a. one_account a

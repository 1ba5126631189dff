-- `promises::shut_out::must_move` says what is proved of that name in `promises.proofs.Worthless`. Assumes nothing.
use Rattle.promises.proofs.Worthless.{must_move}
use Rattle.promises.proofs.shut_out.must_move.Goals as goal

pub returns : goal.returns
returns c = λ b i t u past x a. must_move a u x

-- `promises::shut_out::must_hand` says what is proved of that name in `promises.proofs.Worthless`. Assumes nothing.
use Rattle.promises.proofs.Worthless.{must_hand}
use Rattle.promises.proofs.shut_out.must_hand.Goals as goal

pub returns : goal.returns
returns c = λ b i t past c x a bytes. must_hand a c bytes x

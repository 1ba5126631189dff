-- `promises::shut_out::must_count` says what is proved of that name in `promises.proofs.Worthless`. Assumes nothing.
use Rattle.promises.proofs.Worthless.{must_count}
use Rattle.promises.proofs.shut_out.must_count.Goals as goal

pub returns : goal.returns
returns c = λ b i t u past w a. must_count a u w

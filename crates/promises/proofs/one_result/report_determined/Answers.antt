-- `promises::one_result::report_determined` says what is proved of that name in `promises.proofs.Determined`. Assumes nothing.
use Rattle.promises.proofs.Determined.{report_determined}
use Rattle.promises.proofs.one_result.report_determined.Goals as goal

pub returns : goal.returns
returns c = λ table file out r s t u x y. report_determined table file out

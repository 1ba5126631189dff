-- `promises::slot_after::same_totals` says what is proved of that name in `promises.proofs.History`. Assumes nothing.
use Rattle.promises.proofs.History.{same_totals}
use Rattle.promises.proofs.slot_after.same_totals.Goals as goal

pub returns : goal.returns
returns c = λ b i j t u cs first second. same_totals first second cs

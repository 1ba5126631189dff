-- `promises::accounts::trace_results` says what is proved of that name in `promises.proofs.Traces`. Assumes nothing.
use Rattle.promises.proofs.Traces.{trace_results}
use Rattle.promises.proofs.accounts.trace_results.Goals as goal

pub returns : goal.returns
returns c = λ t cs rs. trace_results t cs rs

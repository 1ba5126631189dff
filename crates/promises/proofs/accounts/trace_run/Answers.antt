-- `promises::accounts::trace_run` says what is proved of that name in `promises.proofs.Traces`. Assumes nothing.
use Rattle.promises.proofs.Traces.{trace_run}
use Rattle.promises.proofs.accounts.trace_run.Goals as goal

pub returns : goal.returns
returns c = λ t cs rs. trace_run t cs rs

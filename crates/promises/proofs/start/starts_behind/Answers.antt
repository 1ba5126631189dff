-- `promises::start::starts_behind` says what is proved of that name in `window.proofs.Starts`. Assumes nothing.
use Rattle.window.proofs.Starts.{starts_behind}
use Rattle.promises.proofs.start.starts_behind.Goals as goal

pub returns : goal.returns
returns c = starts_behind

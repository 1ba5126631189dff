-- `promises::restarting::reloads` says what is proved of that name in `promises.proofs.Restarts`. Assumes nothing.
use Rattle.promises.proofs.Restarts.{reloads}
use Rattle.promises.proofs.restarting.reloads.Goals as goal

pub returns : goal.returns
returns c = λ h s. reloads h.begins s.keyid s.source h.calls h.goes s.begins s.calls s.goes s.counts_nothing

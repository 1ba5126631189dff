-- `promises::restarting::both_traced` says what is proved of that name in `promises.proofs.Restarts`. Assumes nothing.
use Rattle.promises.proofs.Restarts.{both_traced}
use Rattle.promises.proofs.restarting.both_traced.Goals as goal

pub returns : goal.returns
returns c = λ h s. both_traced h.begins s.keyid s.source h.calls h.goes s.begins s.calls s.goes s.counts_nothing

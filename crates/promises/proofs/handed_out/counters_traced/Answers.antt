-- `promises::handed_out::counters_traced` says what is proved of that name in `promises.proofs.Turned`. Assumes nothing.
use Rattle.promises.proofs.Turned.{counters_traced}
use Rattle.promises.proofs.handed_out.counters_traced.Goals as goal

pub returns : goal.returns
returns c = λ m. counters_traced m.begins m.calls m.came m.made m.going
